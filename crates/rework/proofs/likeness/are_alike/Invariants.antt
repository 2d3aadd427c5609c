-- What is left of both logs is alike just where the whole is.
use mathlib.Core.Path.{◌≡◌}
use Prim.Native.Nat.{◌-◌}
use lib.ListN.{length}
use Rattle.chip_log.specs.Log.{records_from}
use Rattle.rework.specs.Alike.{without, same_records, alike}
use Rattle.rework.proofs.likeness.are_alike.Given as goal

abbrev pub invariant-loop-found : goal.invariant-loop-found
invariant-loop-found l = alike l.set (records_from l.old 0) (records_from l.new 0) ≡ same_records (without l.set (records_from l.old l.i)) (without l.set (records_from l.new l.j))

abbrev pub decreases-loop-found : goal.decreases-loop-found
decreases-loop-found l = length l.old - l.i
