-- By bit 7: at once, or as a timed step.
use borrow.Author.Tests.{le-leb, lt-leb}
use mathlib.Core.Path.{◌≡◌, ◌∙◌, ap, sym}
use Prim.Native.Nat.{◌/◌, ◌%◌}
use native.Mathlib.Omega.{arith}
use Rattle.numbers.proofs.Bits.{top_bit}
use Rattle.dsp.specs.Envelope.{ramped, gain_tick}
use Rattle.dsp.proofs.adsr.Envelope.update_gain.Goals as goal

pub returns-then-g-lt128 : goal.returns-then-g-lt128
unfolding gain_tick
returns-then-g-lt128 c = let s = c.args.s in
    let low : s.gain_param % 128 ≡ s.gain_param = omega arith in
    rw (top_bit s.gain_param (omega arith), lt-leb _ _ c.if-g-lt128.true, low) (c.levelled.ensures s)

pub returns-then-t : goal.returns-then-t
unfolding gain_tick
returns-then-t c = let s = c.args.s in
    let t = c.tick_due-t.ensures _ (sym c.requires.0.gain) in
    rw (top_bit s.gain_param (omega arith), le-leb _ _ c.if-g-lt128.false, ← t.1, c.if-t.true, ← t.0)
    (c.levelled-then-t.ensures s ∙ rw c.gained.ensures (ap (ramped (s.gain_param / 32 % 4)) (c.counted-e.ensures s)))

pub returns-else-t : goal.returns-else-t
unfolding gain_tick
returns-else-t c = let s = c.args.s in
    let t = c.tick_due-t.ensures _ (sym c.requires.0.gain) in
    rw (top_bit s.gain_param (omega arith), le-leb _ _ c.if-g-lt128.false, ← t.1, c.if-t.false, ← t.0) (c.counted-e.ensures s)
