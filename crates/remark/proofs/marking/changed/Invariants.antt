-- What is left from here gives the numbers that are still to be listed.
use Prim.Native.Nat.{◌+◌}
use lib.ListN.{drop}
use Rattle.report.proofs.Filling.{Filling}
use Rattle.remark.specs.Marking.{changed_from, changed}
use Rattle.remark.proofs.marking.changed.Given as goal

abbrev pub invariant-loop-i : goal.invariant-loop-i
invariant-loop-i l = Filling (changed l.before l.after) l.initial.to l.to l.put (changed_from (l.i + 1) (drop l.i l.before) (drop l.i l.after))
