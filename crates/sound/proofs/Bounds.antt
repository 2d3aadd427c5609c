-- What a tick period, a level after a step and the noise register stay within.
use mathlib.Core.Path.{refl}
use Prim.Native.Nat.{ℕ, ◌+◌, ◌/◌, ◌%◌, ◌≤◌}
use native.Mathlib.Omega.{arith}
use lib.Dec.{leb}
use borrow.Author.Tests.{leb-true}
use Rattle.numbers.specs.Choice.{◌<?◌, ◌=?◌}
use Rattle.numbers.specs.Listed.{all}
use Rattle.numbers.proofs.Lists.{all-at}
use Rattle.numbers.proofs.Choice.{chosen, least_le}
use Rattle.sound.specs.Clock.{periods, period_of}
use Rattle.sound.specs.Envelope.{lowered, gained}
use Rattle.sound.specs.Noise.{shifted}

-- ---- the clock: no period is above 2048, by one test of the table

pub period_le : (n : ℕ) → period_of n ≤ 2048
unfolding period_of periods all
period_le n = leb-true _ _ (all-at (λ x. leb x 2048) 0 periods refl refl n)

-- ---- the envelope

pub lowered_le : (l : ℕ) → lowered l ≤ l
unfolding lowered
lowered_le l = omega arith

pub gained_le : (m l : ℕ) → l ≤ 0x800 → gained m l ≤ 0x800
unfolding gained
gained_le m l h =
    let P : ℕ → Type 0 = λ (n : ℕ). n ≤ 0x800 in
    let d = lowered_le l in
    let a = least_le (l + 32) 0x7FF in
    let b = least_le (l + 8) 0x7FF in
    chosen P (m =? 0) (omega arith)
    (chosen P (m =? 1) (omega arith)
    (chosen P (m =? 2) (omega arith) (chosen P (l <? 0x600) (omega arith) (omega arith))))

-- ---- the noise

pub shifted_le : (r : ℕ) → r ≤ 0x7FFF → shifted r ≤ 0x7FFF
unfolding shifted
shifted_le r h = let P : ℕ → Type 0 = λ (n : ℕ). n + r / 2 ≤ 0x7FFF in chosen P (r % 2 =? r / 2 % 2) (omega arith) (omega arith)
