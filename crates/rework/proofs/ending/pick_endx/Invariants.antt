-- After j turns it is j turns of the rule.
use mathlib.Core.Path.{◌≡◌}
use Rattle.numbers.specs.Listed.{turns}
use Rattle.rework.specs.Rework.{end_bit}
use Rattle.rework.proofs.ending.pick_endx.Given as goal

abbrev pub invariant-loop-j : goal.invariant-loop-j
invariant-loop-j l = l.endx ≡ turns (end_bit l.set l.new) l.j l.old
