-- What holds of both holds of the chosen one; the least of two.
use Rattle.std.proofs.Common.{◌≡◌, ℕ, ◌+◌, ◌≤◌, min, Bool, true, false, refl, arith, leb-false, leb-true, if◌then◌else◌}
use Rattle.numbers.specs.Choice.{◌≤?◌}
use Rattle.numbers.specs.Unsigned.{least}

-- by the test that is made
pub tested : {A : Type 0} (P : A → Type 0) (b : Bool) {x y : A} → (b ≡ true → P x) → (b ≡ false → P y) → P (if b then x else y)
tested P true f g = f refl
tested P false f g = g refl

pub chosen : {A : Type 0} (P : A → Type 0) (b : Bool) {x y : A} → P x → P y → P (if b then x else y)
chosen P b p q = tested P b (λ _. p) (λ _. q)

-- one test on both sides
pub chosen_both : {A : Type 0} (R : A → A → Type 0) (b : Bool) {x y v w : A} → R x v → R y w → R (if b then x else y) (if b then v else w)
chosen_both R true p q = p
chosen_both R false p q = q

-- by the native least, which omega reads
least-is : (a b : ℕ) → least a b ≡ min a b
least-is a b = tested (λ (n : ℕ). n ≡ min a b) (a ≤? b) (λ e. omega (arith, leb-true a b e)) (λ e. omega (arith, leb-false a b e))

pub least_le : (a b : ℕ) → least a b ≤ b
least_le a b = omega (arith, least-is a b)

pub least_top : (a b : ℕ) → b ≤ a → least a b ≡ b
least_top a b h = omega (arith, least-is a b)

-- a sum that is capped may be of a number that was capped before
pub least-before : (a b k : ℕ) → least (least a k + b) k ≡ least (a + b) k
least-before a b k = omega (arith, least-is a k, least-is (least a k + b) k, least-is (a + b) k)

pub least-both : (a b : ℕ) → (least a b ≤ a) × (least a b ≤ b) × ((k : ℕ) → k ≤ a → k ≤ b → k ≤ least a b)
least-both a b = omega (arith, least-is a b)
