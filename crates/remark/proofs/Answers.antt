-- The first of a list.
use Rattle.std.proofs.Common.{◌≡◌, ℕ, ◌<◌, List, length, take, sym, ◌∙◌, arith, le-leb}
use native.Mathlib.Decide.{dec_le}
use lib.Seq.{take_all}
use borrow.Author.Tests.{lt-leb}
use Rattle.numbers.specs.Unsigned.{least}

-- no more than there are
pub take_least : (n : ℕ) (l : List ℕ) → take (least n (length l)) l ≡ take n l
take_least n l =
    elim (dec_le n (length l)) [
      | yes e ↦ rw (le-leb _ _ e)
      | no e ↦ let h : length l < n = omega arith in rw (lt-leb _ _ h) (take_all (length l) l (omega arith) ∙ sym (take_all n l (omega arith)))
    ]
