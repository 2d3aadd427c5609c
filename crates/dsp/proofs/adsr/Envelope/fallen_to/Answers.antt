-- By the test.
use borrow.Author.Tests.{eq-eqb, ne_eqb}
use Rattle.dsp.specs.Envelope.{fallen_to}
use Rattle.dsp.proofs.adsr.Envelope.fallen_to.Goals as goal

pub returns-then-level-eq0 : goal.returns-then-level-eq0
unfolding fallen_to
returns-then-level-eq0 c = λ s. rw (eq-eqb _ _ c.if-level-eq0.true)

pub returns-else-level-eq0 : goal.returns-else-level-eq0
unfolding fallen_to
returns-else-level-eq0 c = rw (ne_eqb _ _ c.if-level-eq0.false) c.levelled.ensures
