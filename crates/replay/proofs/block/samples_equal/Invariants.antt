-- After k turns the first k samples are compared.
use Rattle.std.proofs.Common.{◌≡◌}
use Rattle.replay.specs.Block.{samples_equal}
use Rattle.replay.proofs.block.samples_equal.Given as goal

abbrev pub invariant-loop-k : goal.invariant-loop-k
invariant-loop-k l = l.equal ≡ samples_equal l.samples l.bytes l.k
