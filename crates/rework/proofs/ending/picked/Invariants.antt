-- After j turns the first j are chosen.
use Rattle.std.proofs.Common.{if◌then◌else◌}
use lib.ListN.{get_or}
use Rattle.numbers.specs.Bits.{bit}
use Rattle.rework.proofs.Listed.{Stored}
use Rattle.rework.proofs.ending.picked.Given as goal

abbrev pub invariant-loop-j : goal.invariant-loop-j
invariant-loop-j g l = (d : _) → Stored 8 (λ i. if bit l.set i then get_or l.new i d else get_or l.initial.all i d) l.initial.all l.j l.all
