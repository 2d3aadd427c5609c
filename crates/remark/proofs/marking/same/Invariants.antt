-- The count so far, with those that are left, gives the whole.
use mathlib.Core.Path.{◌≡◌}
use Prim.Native.Nat.{◌+◌, ◌≤◌}
use lib.ListN.{drop}
use Rattle.remark.specs.Marking.{same}
use Rattle.remark.proofs.marking.same.Given as goal

abbrev pub invariant-loop-i : goal.invariant-loop-i
invariant-loop-i l = (l.count ≤ l.i) × (l.count + same (drop l.i l.before) (drop l.i l.after) ≡ same l.before l.after)
