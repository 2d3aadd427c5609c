-- What is left from each place gives the whole answer. The measure is the bytes that are left.
use Prim.Native.Nat.{◌-◌}
use lib.ListN.{length}
use Rattle.chip_log.proofs.Turn.{Here}
use Rattle.chip_log.proofs.measure.Given as goal

abbrev pub invariant-loop-found : goal.invariant-loop-found
invariant-loop-found l = Here l.log l.at l.ticks l.readings

abbrev pub decreases-loop-found : goal.decreases-loop-found
decreases-loop-found l = length l.log - l.at
