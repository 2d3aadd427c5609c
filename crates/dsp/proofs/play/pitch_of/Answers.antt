-- The formula over ℤ; the pitch is never negative.
use borrow.Author.Rules.{rules}
use Prim.Native.Nat.{◌<◌}
use native.Mathlib.Omega.{arith}
use lib.Signed.{mag}
use Rattle.numbers.proofs.Range.{fits, quotes, q_unsigned, q_elem16}
use Rattle.dsp.specs.Voice.{pitch_of}
use Rattle.dsp.proofs.Pitch.{machine, machine_is, machine_nat, cast_nat, nat_le}
use Rattle.dsp.proofs.play.pitch_of.Goals as goal

pub overflow_cast-result : goal.overflow_cast-result
overflow_cast-result c = fits (search (quotes, q_unsigned, q_elem16) depth 20) tt

pub overflow_mul-result : goal.overflow_mul-result
overflow_mul-result c = fits (search (quotes, q_unsigned, q_elem16) depth 20) tt

pub overflow_add-result : goal.overflow_add-result
overflow_add-result c = fits (search (quotes, q_unsigned, q_elem16) depth 20) tt

pub overflow_cast-result-in-Some : goal.overflow_cast-result-in-Some
overflow_cast-result-in-Some c =
    let small : mag c.in-Some.x < 0x8000 = (search rules) in
    let s = c in
    let x = c.in-Some.x in
    let f = s.ranges.base.fits in
    cast_nat {z = machine s.args.base x} (machine_nat s.args.base x s.ranges.base small) (omega arith)

pub returns-in-Some : goal.returns-in-Some
unfolding pitch_of
returns-in-Some c =
    let small : mag c.in-Some.x < 0x8000 = (search rules) in
    let s = c in
    let x = c.in-Some.x in
    let f = s.ranges.base.fits in
    let k = machine_nat s.args.base x s.ranges.base small in
    (rw (c.in-Some.is, ← machine_is s.args.base x s.ranges.base small, k.is), omega (arith, nat_le k))

pub returns-in_default : goal.returns-in_default
unfolding pitch_of
returns-in_default c = let f = c.ranges.base.fits in (rw c.in_default.is, omega arith)
