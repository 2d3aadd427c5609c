-- What stays from each place on is what stays from the first.
use mathlib.Core.Path.{◌≡◌}
use Prim.Native.Nat.{◌≤◌, ◌-◌}
use lib.ListN.{length}
use Rattle.chip_log.specs.Log.{records_from}
use Rattle.rework.specs.Alike.{without}
use Rattle.rework.proofs.likeness.next_staying.Given as goal

abbrev pub invariant-loop-found : goal.invariant-loop-found
invariant-loop-found l = (without l.set (records_from l.log l.from) ≡ without l.set (records_from l.log l.at)) × (l.from ≤ l.at)

abbrev pub decreases-loop-found : goal.decreases-loop-found
decreases-loop-found l = length l.log - l.at
