-- After k turns the first k bytes stand in RAM.
use Rattle.std.proofs.Common.{◌≡◌, length}
use Rattle.replay.specs.Block.{laid}
use Rattle.replay.proofs.block.lay.Given as goal

abbrev pub invariant-loop-k : goal.invariant-loop-k
invariant-loop-k l = (length l.ram ≡ 0x10000) × (l.ram ≡ laid l.part l.at l.k l.initial.ram)
