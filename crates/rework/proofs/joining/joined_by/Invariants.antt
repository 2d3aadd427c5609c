-- After j turns it is j turns of the rule.
use mathlib.Core.Path.{◌≡◌}
use Rattle.numbers.specs.Listed.{turns}
use Rattle.rework.specs.Members.{join_after}
use Rattle.rework.proofs.joining.joined_by.Given as goal

abbrev pub invariant-loop-j : goal.invariant-loop-j
invariant-loop-j l = l.a ≡ turns (join_after l.pmon) l.j l.initial.a
