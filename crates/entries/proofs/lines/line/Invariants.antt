-- No more values are used than signs were put.
use Rattle.std.proofs.Common.{◌≤◌}
use Rattle.entries.proofs.lines.line.Given as goal

abbrev pub invariant-loop-sign : goal.invariant-loop-sign
invariant-loop-sign g l = l.used ≤ l.sign-index
