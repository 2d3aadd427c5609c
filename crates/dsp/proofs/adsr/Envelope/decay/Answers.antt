-- A timed step, as the clock's callee tells it.
use mathlib.Core.Path.{sym}
use Rattle.dsp.specs.Envelope.{decay_tick}
use Rattle.dsp.proofs.adsr.Envelope.decay.Goals as goal

pub returns-then-t : goal.returns-then-t
unfolding decay_tick
returns-then-t c = let s = c.args.s in
    let t = c.tick_due-t.ensures _ (sym c.requires.0.decay) in
    rw (← t.1, c.if-t.true, ← t.0, ← (c.counted-e.ensures s)) (c.settled.ensures s)

pub returns-else-t : goal.returns-else-t
unfolding decay_tick
returns-else-t c = let t = c.tick_due-t.ensures _ (sym c.requires.0.decay) in
    rw (← t.1, c.if-t.false, ← t.0) (c.counted-e.ensures c.args.s)
