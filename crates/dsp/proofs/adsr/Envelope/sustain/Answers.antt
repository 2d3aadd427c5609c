-- A timed step, as the clock's callee tells it; the level to fall to is lowered first.
use mathlib.Core.Path.{◌∙◌, ap, sym}
use Rattle.dsp.specs.Envelope.{faded, sustain_tick}
use Rattle.dsp.proofs.adsr.Envelope.sustain.Goals as goal

pub returns-then-t : goal.returns-then-t
unfolding sustain_tick
returns-then-t c = let s = c.args.s in
    let t = c.tick_due-t.ensures _ (sym c.requires.0.sustain) in
    rw (← t.1, c.if-t.true, ← t.0)
    (c.fallen_to.ensures s ∙ rw c.lowered.ensures (ap faded (c.counted-e.ensures s)))

pub returns-else-t : goal.returns-else-t
unfolding sustain_tick
returns-else-t c = let t = c.tick_due-t.ensures _ (sym c.requires.0.sustain) in
    rw (← t.1, c.if-t.false, ← t.0) (c.counted-e.ensures c.args.s)
