-- What is left of the log gives the registers that are still to be listed. The measure is the bytes of the log that are left.
use Rattle.std.proofs.Common.{◌-◌, length}
use Rattle.report.proofs.Listing.{Listed}
use Rattle.report.proofs.runs.registers_read.Given as goal

abbrev pub invariant-loop-put : goal.invariant-loop-put
invariant-loop-put l = Listed l.log l.initial.to l.to l.put l.at

abbrev pub decreases-loop-put : goal.decreases-loop-put
decreases-loop-put l = length l.log - l.at
