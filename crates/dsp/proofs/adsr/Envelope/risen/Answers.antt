-- By the test.
use borrow.Author.Tests.{le-leb, lt-leb}
use Rattle.dsp.specs.Envelope.{risen}
use Rattle.dsp.proofs.adsr.Envelope.risen.Goals as goal

pub returns-then-level-ge2047 : goal.returns-then-level-ge2047
unfolding risen
returns-then-level-ge2047 c = λ s. rw (le-leb _ _ c.if-level-ge2047.true)

pub returns-else-level-ge2047 : goal.returns-else-level-ge2047
unfolding risen
returns-else-level-ge2047 c = rw (lt-leb _ _ c.if-level-ge2047.false) c.levelled.ensures
