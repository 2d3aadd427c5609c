-- By the tests: at once, or as a timed step.
use borrow.Author.Rules.{rules}
use borrow.Author.Tests.{eq-eqb, ne_eqb}
use mathlib.Core.Path.{◌≡◌, sym}
use Rattle.dsp.specs.Envelope.{attack_tick}
use Rattle.dsp.proofs.adsr.Envelope.attack.Goals as goal

pub risen-requires-then-t : goal.risen-requires-then-t
risen-requires-then-t c = let a = c.args in
    let h : c.counted-e.result.level ≡ a.self.level = (λ i. (c.counted-e.ensures a.s i).envelope_level) in
    search rules

pub returns-then-s-eq15 : goal.returns-then-s-eq15
unfolding attack_tick
returns-then-s-eq15 c = rw (eq-eqb _ _ c.if-s-eq15.true) (c.risen.ensures c.args.s)

pub returns-then-t : goal.returns-then-t
unfolding attack_tick
returns-then-t c = let s = c.args.s in
    let t = c.tick_due-t.ensures _ (sym c.requires.0.attack) in
    rw (ne_eqb _ _ c.if-s-eq15.false, ← t.1, c.if-t.true, ← t.0, ← (c.counted-e.ensures s))
    (c.risen-then-t.ensures s)

pub returns-else-t : goal.returns-else-t
unfolding attack_tick
returns-else-t c = let t = c.tick_due-t.ensures _ (sym c.requires.0.attack) in
    rw (ne_eqb _ _ c.if-s-eq15.false, ← t.1, c.if-t.false, ← t.0) (c.counted-e.ensures c.args.s)
