-- What the definitions of Marking come to.
use Rattle.std.specs.Prelude.{List, ◌≡◌, ℕ, ◌+◌, length}
use Rattle.remark.specs.Marking.{same, changed, verdict_of, greatest}
use Rattle.remark.specs.declared.marking.Verdict.TheVariants.{Nothing}

-- each reading is as before or has changed
abbrev pub EachIsTold : Type 0
EachIsTold = (before after : List ℕ) → same before after + length (changed before after) ≡ greatest (length before) (length after)

-- "nothing has to be marked again" is said of equal readings, and of no others
abbrev pub NothingIsEqual : Type 0
NothingIsEqual = (before after : List ℕ) → (verdict_of before after ≡ Nothing → before ≡ after) × (before ≡ after → verdict_of before after ≡ Nothing)
