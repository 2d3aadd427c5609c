-- The measure is the bytes that are left.
use mathlib.Core.Path.{◌≡◌}
use Prim.Native.Nat.{◌-◌, ◌≤◌}
use lib.ListN.{length}
use Rattle.trace.proofs.ticks.run_records.Given as goal

abbrev pub invariant-loop-found : goal.invariant-loop-found
invariant-loop-found l = (length l.ram ≡ length l.initial.ram) × (l.at ≤ length l.log)

abbrev pub decreases-loop-found : goal.decreases-loop-found
decreases-loop-found l = length l.log - l.at
