-- After 16 turns all samples are compared: the definition need not be unfolded.
use Rattle.std.proofs.Common.{rules}
use Rattle.replay.proofs.block.samples_equal.Goals as goal

pub returns : goal.returns
returns c = search rules
