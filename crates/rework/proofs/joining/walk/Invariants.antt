-- What has been walked and what is left give the whole.
use mathlib.Core.Bool.{◌&&◌}
use mathlib.Core.Path.{◌≡◌}
use Prim.Native.Nat.{◌-◌}
use lib.ListN.{length}
use Rattle.chip_log.specs.Log.{records_from}
use Rattle.rework.specs.Members.{quiet, members}
use Rattle.rework.proofs.joining.walk.Given as goal

abbrev pub invariant-loop-found : goal.invariant-loop-found
invariant-loop-found l = (quiet (records_from l.log 0) l.initial.w.modes ≡ (l.w.quiet && quiet (records_from l.log l.at) l.w.modes)) × (members (records_from l.log 0) l.initial.w.modes l.initial.w.set ≡ members (records_from l.log l.at) l.w.modes l.w.set)

abbrev pub decreases-loop-found : goal.decreases-loop-found
decreases-loop-found l = length l.log - l.at
