-- The records passed are equal, and what they handed on is what the next is handed.
use borrow.Author.Tests.{not-true, not-false}
use Rattle.replay.proofs.Fronts.{none, one_more, stops}
use Rattle.replay.proofs.parts.front_of.Goals as goal

pub loop-equal-init : goal.loop-equal-init
loop-equal-init c = none _ _ _

pub returns-then-not-c : goal.returns-then-not-c
returns-then-not-c c = stops _ _ _ _ _ _ _ c.size-n.ensures.0 c.loop-equal.invariant c.check-c.ensures c.loop-equal-test.true (not-true _ c.if-not-c.true)

pub loop-equal-preserved : goal.loop-equal-preserved
loop-equal-preserved c = one_more _ _ _ _ _ _ _ c.size-n.ensures.0 c.loop-equal.invariant c.check-c.ensures (not-false _ c.if-not-c.false)
