-- The difference that stops at 0.
use Rattle.sound.specs.Envelope.{lowered}
use Rattle.sound.proofs.adsr.lowered.Goals as goal

pub returns : goal.returns
unfolding lowered
returns c = c.saturating_sub.ensures
