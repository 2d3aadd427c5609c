-- The measure is the weight of what is left of the log.
use Rattle.std.proofs.Common.{◌≡◌, ◌≤◌, length}
use Rattle.bench.specs.Turn.{weight}
use Rattle.bench.proofs.running.run.Given as goal

abbrev pub invariant-loop-part : goal.invariant-loop-part
invariant-loop-part g l = (length l.ram ≡ length l.initial.ram) × (length l.pcm ≡ 4096) × (l.stage.at ≤ length l.log) × (l.readings ≤ l.stage.at)

abbrev pub decreases-loop-part : goal.decreases-loop-part
decreases-loop-part g l = weight (length l.log) l.stage.at l.stage.left
