-- Readings compared place by place.
use Rattle.std.proofs.Common.{if◌then◌else◌}
use mathlib.Core.Bool.{Bool, true, false}
use mathlib.Core.List.{List, [], ◌∷◌}
use mathlib.Core.Path.{◌≡◌, refl, sym, ◌∙◌}
use Prim.Native.Nat.{ℕ, suc, ◌+◌, ◌≤◌, ◌<◌}
use native.Mathlib.Nat.{le_refl}
use native.Mathlib.Numerals.{add-one}
use native.Mathlib.Omega.{arith}
use native.Mathlib.Decide.{dec_le}
use lib.ListN.{length, get_or, drop, drop_of_length-le}
use lib.Seq.{drop-cons}
use borrow.Author.Tests.{le-leb, lt-leb}
use Rattle.numbers.specs.Choice.{◌≤?◌}
use Rattle.numbers.specs.Unsigned.{least}
use Rattle.numbers.proofs.Choice.{chosen}
use Rattle.remark.specs.Marking.{kept, same, changed_from, same_at, greatest}

-- ---- the greatest of two

pub greatest_le : (a b i : ℕ) → a ≤ i → b ≤ i → greatest a b ≤ i
greatest_le a b i h l = chosen (λ (n : ℕ). n ≤ i) (a ≤? b) l h

pub greatest-both : (a b : ℕ) → (a ≤ greatest a b) × (b ≤ greatest a b)
greatest-both a b =
    elim (dec_le a b) [
      | yes e ↦ rw (le-leb _ _ e) (e, le_refl b)
      | no e ↦ let l : b < a = omega arith in rw (lt-leb _ _ l) (le_refl a, omega arith)
    ]

-- ---- those that are as before

nothing_after : (before : List ℕ) → same before [] ≡ 0
unfolding same
nothing_after [] = refl
nothing_after (b ∷ bs) = refl

module _ (before after : List ℕ) (i : ℕ) where
  abbrev was : ℕ
  was = get_or before i 0

  abbrev is : ℕ
  is = get_or after i 0

  -- at the end of either there are no more
  pub same_end : least (length before) (length after) ≤ i → same (drop i before) (drop i after) ≡ 0
  unfolding same
  same_end h =
      elim (dec_le (length before) (length after)) [
        | yes e ↦ let m : length before ≤ i = rw (le-leb _ _ e) at h in rw (drop_of_length-le before {i = i} m)
        | no e ↦ let l : length after < length before = omega arith in
            let m : length after ≤ i = rw (lt-leb _ _ l) at h in rw (drop_of_length-le after {i = i} m) (nothing_after (drop i before))
      ]

  -- one more is counted, or not
  pub same_more : (count : ℕ) {k : ℕ} → i < length before → i < length after → k ≡ kept was is → count + same (drop i before) (drop i after) ≡ same before after
      → count + k + same (drop (i + 1) before) (drop (i + 1) after) ≡ same before after
  unfolding same
  same_more count {k} h l e s =
      let o : same (drop i before) (drop i after) ≡ kept was is + same (drop (i + 1) before) (drop (i + 1) after) = rw (add-one i, drop-cons before i 0 h, drop-cons after i 0 l) in
      rw e (omega (arith, o, s))

  -- ---- those that have changed

  abbrev onward : ℕ → List ℕ
  onward n = changed_from (n + 1) (drop (i + 1) before) (drop (i + 1) after)

  -- at the end of both there are no more
  pub changed-end : (n : ℕ) → length before ≤ i → length after ≤ i → changed_from n (drop i before) (drop i after) ≡ []
  unfolding changed_from
  changed-end n h l = rw (drop_of_length-le before {i = i} h, drop_of_length-le after {i = i} l)

  both : (n : ℕ) → i < length before → i < length after → changed_from n (drop i before) (drop i after) ≡ (if same_at before after i then onward n else n ∷ onward n)
  unfolding changed_from
  both n h l = rw (add-one i, drop-cons before i 0 h, drop-cons after i 0 l, lt-leb _ _ h, lt-leb _ _ l)

  only-before : (n : ℕ) → i < length before → length after ≤ i → changed_from n (drop i before) (drop i after) ≡ (if same_at before after i then onward n else n ∷ onward n)
  unfolding changed_from
  only-before n h l =
      rw (lt-leb _ _ h, le-leb _ _ l, add-one i, drop-cons before i 0 h, drop_of_length-le after {i = i} l, drop_of_length-le after {i = suc i} (omega arith))

  only-after : (n : ℕ) → length before ≤ i → i < length after → changed_from n (drop i before) (drop i after) ≡ (if same_at before after i then onward n else n ∷ onward n)
  unfolding changed_from
  only-after n h l =
      rw (le-leb _ _ h, add-one i, drop-cons after i 0 l, drop_of_length-le before {i = i} h, drop_of_length-le before {i = suc i} (omega arith))

  pub changed-at : (n : ℕ) → i < greatest (length before) (length after)
      → changed_from n (drop i before) (drop i after) ≡ (if same_at before after i then onward n else n ∷ onward n)
  changed-at n h =
      elim (dec_le (length before) i) [
        | yes p ↦ elim (dec_le (length after) i) [
          | yes q ↦ let g = greatest_le (length before) (length after) i p q in absurd (omega (arith, g, h))
          | no q ↦ only-after n p (omega arith)
        ]
        | no p ↦ elim (dec_le (length after) i) [
          | yes q ↦ only-before n (omega arith) q
          | no q ↦ both n (omega arith) (omega arith)
        ]
      ]

  -- it is listed, or passed
  module _ {t : Bool} (told : t ≡ same_at before after i) (n : ℕ) (h : i < greatest (length before) (length after)) where
    pub changed_here : t ≡ false → changed_from n (drop i before) (drop i after) ≡ n ∷ onward n
    changed_here e = changed-at n h ∙ rw (sym told ∙ e)

    pub kept_here : t ≡ true → changed_from n (drop i before) (drop i after) ≡ onward n
    kept_here e = changed-at n h ∙ rw (sym told ∙ e)
