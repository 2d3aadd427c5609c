-- The next number is at most the reading that is reached.
use Rattle.std.proofs.Common.{◌≤◌}
use Rattle.remark.proofs.telling.tell_readings.Given as goal

abbrev pub invariant-loop-i : goal.invariant-loop-i
invariant-loop-i g l = l.next ≤ l.i
