-- Each reading is as before or has changed; and nothing has to be marked again where the readings are equal, and nowhere else.
use mathlib.Core.List.{List, [], ◌∷◌}
use mathlib.Core.Path.{◌≡◌, refl, sym, ap, ◌∙◌}
use Prim.Native.Nat.{ℕ, suc, ◌+◌, ◌≤◌, ◌<◌}
use native.Mathlib.Omega.{arith}
use native.Mathlib.Decide.{dec_le}
use lib.ListN.{length}
use borrow.Author.Tests.{le-leb, lt-leb, eq-eqb, eqb-true}
use Rattle.numbers.specs.Choice.{◌=?◌}
use Rattle.numbers.proofs.Choice.{tested}
use Rattle.remark.specs.Marking.{kept, same, changed_from, changed, verdict_by, verdict_of, greatest}
use Rattle.remark.specs.Laws.{EachIsTold, NothingIsEqual}
use Rattle.remark.specs.declared.marking.Verdict.TheVariants.{Nothing, Changed}

-- ---- the count

greatest_suc : (a b : ℕ) → greatest (suc a) (suc b) ≡ suc (greatest a b)
greatest_suc a b =
    elim (dec_le a b) [
      | yes e ↦ let f : suc a ≤ suc b = omega arith in rw (le-leb _ _ e, le-leb _ _ f)
      | no e ↦ let l : b < a = omega arith in let m : suc b < suc a = omega arith in rw (lt-leb _ _ l, lt-leb _ _ m)
    ]

each_only-after : (n : ℕ) (after : List ℕ) → length (changed_from n [] after) ≡ length after
unfolding changed_from
each_only-after n [] = refl
each_only-after n (a ∷ xs) = ap suc (each_only-after (n + 1) xs)

each_only-before : (n : ℕ) (before : List ℕ) → length (changed_from n before []) ≡ length before
unfolding changed_from
each_only-before n [] = refl
each_only-before n (b ∷ ys) = ap suc (each_only-before (n + 1) ys)

each_from : (n : ℕ) (before after : List ℕ) → same before after + length (changed_from n before after) ≡ greatest (length before) (length after)
unfolding same changed_from
each_from n [] [] = refl
each_from n [] (a ∷ xs) = let e = each_only-after (n + 1) xs in let g : greatest 0 (suc (length xs)) ≡ suc (length xs) = rw (le-leb 0 (suc (length xs)) (omega arith)) in omega (arith, e, g)
each_from n (b ∷ ys) [] = let e = each_only-before (n + 1) ys in let g : greatest (suc (length ys)) 0 ≡ suc (length ys) = rw (lt-leb (suc (length ys)) 0 (omega arith)) in omega (arith, e, g)
each_from n (b ∷ ys) (a ∷ xs) =
    let h = each_from (n + 1) ys xs in
    let g = greatest_suc (length ys) (length xs) in
    tested (λ (l : List ℕ). kept b a + same ys xs + length l ≡ greatest (suc (length ys)) (suc (length xs))) (b =? a)
    (λ e. rw e (omega (arith, h, g)))
    (λ e. rw e (omega (arith, h, g)))

pub each_is-told : EachIsTold
each_is-told before after = each_from 1 before after

-- ---- the verdict

unchanged : (n : ℕ) (before after : List ℕ) → length (changed_from n before after) ≡ 0 → before ≡ after
unfolding changed_from
unchanged n [] [] e = refl
unchanged n [] (a ∷ xs) e = absurd (omega (arith, e))
unchanged n (b ∷ ys) [] e = absurd (omega (arith, e))
unchanged n (b ∷ ys) (a ∷ xs) e =
    tested (λ (l : List ℕ). length l ≡ 0 → b ∷ ys ≡ a ∷ xs) (b =? a)
    (λ t z. let h = unchanged (n + 1) ys xs z in λ i. eqb-true b a t i ∷ h i)
    (λ t z. absurd (omega (arith, z)))
    e

equal_from : (n : ℕ) (readings : List ℕ) → changed_from n readings readings ≡ []
unfolding changed_from
equal_from n [] = refl
equal_from n (r ∷ rs) = rw (eq-eqb r r refl) (equal_from (n + 1) rs)

by_none : (l : List ℕ) → verdict_by l ≡ Nothing → length l ≡ 0
by_none [] e = refl
by_none (n ∷ ns) e = let z : ◌≡◌ {A = ℕ} 0 1 = cc in absurd (omega arith)

pub nothing_is-equal : NothingIsEqual
nothing_is-equal before after =
    (λ e. unchanged 1 before after (by_none (changed before after) e), λ e. ap (λ (l : List ℕ). verdict_of before l) (sym e) ∙ ap verdict_by (equal_from 1 before))

-- ---- as the program finds it

by_some : (l : List ℕ) → (length l ≡ 0 → ⊥) → Changed ≡ verdict_by l
by_some [] h = absurd (h refl)
by_some (n ∷ ns) h = refl

pub unequal : (before after : List ℕ) → (before ≡ after → ⊥) → Changed ≡ verdict_of before after
unequal before after h = by_some (changed before after) (λ e. h (unchanged 1 before after e))

pub equal : (before after : List ℕ) → before ≡ after → Nothing ≡ verdict_of before after
equal before after e = sym ((nothing_is-equal before after).1 e)
