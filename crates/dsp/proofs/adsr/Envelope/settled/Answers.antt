-- By the test, with the lowered level in its place.
use borrow.Author.Tests.{le-leb, lt-leb}
use Rattle.dsp.specs.Envelope.{settled}
use Rattle.dsp.proofs.adsr.Envelope.settled.Goals as goal

pub returns-then-level-target : goal.returns-then-level-target
unfolding settled
returns-then-level-target c = λ s. rw (← c.lowered-level.ensures, le-leb _ _ c.if-level-target.true)

pub returns-else-level-target : goal.returns-else-level-target
unfolding settled
returns-else-level-target c = rw (← c.lowered-level.ensures, lt-leb _ _ c.if-level-target.false) c.levelled.ensures
