-- The readings of two sittings side by side: how many are as before, which have changed, and whether anything has to be marked again.
use Rattle.std.specs.Prelude.{Bool, false, List, [], ◌∷◌, ℕ, ◌+◌, length, get_or, if◌then◌else◌}
use Rattle.numbers.specs.Choice.{◌≤?◌, ◌=?◌}
use Rattle.remark.specs.declared.marking.Verdict.{Verdict}
use Rattle.remark.specs.declared.marking.Verdict.TheVariants.{Nothing, Changed}

-- a reading that has the value that it had
abbrev pub kept : ℕ → ℕ → ℕ
kept was is = if was =? is then 1 else 0

-- how many of them there are
unfoldable pub same : List ℕ → List ℕ → ℕ
same [] after = 0
same (b ∷ before) [] = 0
same (b ∷ before) (a ∷ after) = kept b a + same before after

-- the others, by their running numbers from n on; a reading that only one sitting has is one of them
unfoldable pub changed_from : ℕ → List ℕ → List ℕ → List ℕ
changed_from n [] [] = []
changed_from n [] (a ∷ after) = n ∷ changed_from (n + 1) [] after
changed_from n (b ∷ before) [] = n ∷ changed_from (n + 1) before []
changed_from n (b ∷ before) (a ∷ after) = if b =? a then changed_from (n + 1) before after else n ∷ changed_from (n + 1) before after

abbrev pub changed : List ℕ → List ℕ → List ℕ
changed before after = changed_from 1 before after

-- nothing has to be marked again where nothing has changed
abbrev pub verdict_by : List ℕ → Verdict
verdict_by [] = Nothing
verdict_by (n ∷ ns) = Changed

abbrev pub verdict_of : List ℕ → List ℕ → Verdict
verdict_of before after = verdict_by (changed before after)

-- ---- the reading at a place, from 0

abbrev pub same_at : List ℕ → List ℕ → ℕ → Bool
same_at before after i =
    if length before ≤? i then false else
    if length after ≤? i then false else
    get_or before i 0 =? get_or after i 0

abbrev pub greatest : ℕ → ℕ → ℕ
greatest a b =
    if a ≤? b then b else
    a

-- ---- the list, met one by one: whether this is its next number, and where the next one then stands

abbrev pub is_at : List ℕ → ℕ → ℕ → Bool
is_at numbers at number =
    if length numbers ≤? at then false else
    get_or numbers at 0 =? number

abbrev pub behind : ℕ → Bool → ℕ
behind at isNext = if isNext then at + 1 else at
