-- The test `same_bytes`: byte by byte, behind a common end, and that it tells equal rows from others.
use mathlib.Core.Bool.{Bool, true, false, ◌&&◌}
use mathlib.Core.List.{List, [], ◌∷◌, ◌++◌}
use mathlib.Core.Path.{◌≡◌, refl, ap}
use Prim.Native.Nat.{ℕ, ◌+◌, ◌<◌}
use native.Mathlib.Nat.{suc_inj}
use native.Mathlib.Numerals.{add-one}
use native.Mathlib.Omega.{arith}
use lib.Dec.{eqb}
use lib.ListN.{length, drop, get_or}
use lib.Seq.{drop-cons}
use borrow.Author.Tests.{eq-eqb, eqb-true}
use Rattle.wav.specs.Wav.{same_bytes}

-- both tests of two
pub both : (a b : Bool) → (a && b) ≡ true → (a ≡ true) × (b ≡ true)
both true b e = (refl, e)
both false b e = let z : ◌≡◌ {A = ℕ} 0 1 = cc in absurd (omega arith)

-- from place i on: the bytes there, then those behind them
pub same_from : (a b : List ℕ) (i : ℕ) → i < length a → i < length b
    → same_bytes (drop i a) (drop i b) ≡ (eqb (get_or a i 0) (get_or b i 0) && same_bytes (drop (i + 1) a) (drop (i + 1) b))
unfolding same_bytes
same_from a b i h k = rw (add-one i, drop-cons a i 0, drop-cons b i 0)

pub same_self : (a : List ℕ) → same_bytes a a ≡ true
unfolding same_bytes
same_self [] = refl
same_self (x ∷ xs) = rw (eq-eqb x x refl) (same_self xs)

pub same-is : (a b : List ℕ) → same_bytes a b ≡ true → a ≡ b
unfolding same_bytes
same-is [] [] e = refl
same-is [] (y ∷ ys) e = let z : ◌≡◌ {A = ℕ} 0 1 = cc in absurd (omega arith)
same-is (x ∷ xs) [] e = let z : ◌≡◌ {A = ℕ} 0 1 = cc in absurd (omega arith)
same-is (x ∷ xs) (y ∷ ys) e = let t = both (eqb x y) (same_bytes xs ys) e in λ i. eqb-true x y t.0 i ∷ same-is xs ys t.1 i

-- rows with one end are the same where what stands before it is
pub same-before : (a b t : List ℕ) → length a ≡ length b → same_bytes (a ++ t) (b ++ t) ≡ same_bytes a b
unfolding same_bytes
same-before [] [] t e = same_self t
same-before [] (y ∷ ys) t e = absurd (omega arith)
same-before (x ∷ xs) [] t e = absurd (omega arith)
same-before (x ∷ xs) (y ∷ ys) t e = ap (λ (s : Bool). eqb x y && s) (same-before xs ys t (suc_inj e))
