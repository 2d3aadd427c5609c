-- By the test of the two bits.
use native.Mathlib.Omega.{arith}
use borrow.Author.Tests.{eq-eqb, ne_eqb}
use Rattle.sound.specs.Noise.{shifted}
use Rattle.sound.proofs.noise.shifted.Goals as goal

pub returns-then-lfsr : goal.returns-then-lfsr
unfolding shifted
returns-then-lfsr c = rw (eq-eqb _ _ c.if-lfsr.true) (omega arith)

pub returns-else-lfsr : goal.returns-else-lfsr
unfolding shifted
returns-else-lfsr c = rw (ne_eqb _ _ c.if-lfsr.false)
