-- The count of equal records is at most the bytes that the parts may have.
use Rattle.std.proofs.Common.{◌*◌, ◌≤◌}
use Rattle.replay.proofs.parts.replay.Given as goal

abbrev pub invariant-loop-parts : goal.invariant-loop-parts
invariant-loop-parts g l = l.equal ≤ l.parts * 0x10000
