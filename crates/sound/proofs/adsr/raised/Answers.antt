-- The cap before the sum changes nothing; it keeps the sum within 16 bits.
use native.Mathlib.Omega.{arith}
use Rattle.numbers.proofs.Choice.{least_le, least-before}
use Rattle.sound.proofs.adsr.raised.Goals as goal

pub overflow_add-min : goal.overflow_add-min
overflow_add-min c = omega (arith, least_le c.args.level 0x7FF)

pub returns : goal.returns
returns c = let a = c.args in cc (least-before a.level a.by 0x7FF)
