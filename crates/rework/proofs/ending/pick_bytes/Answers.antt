-- After i stores the first i are chosen.
use borrow.Author.Rules.{rules}
use native.Mathlib.Omega.{arith}
use Rattle.rework.specs.Rework.{picked_bytes}
use Rattle.rework.proofs.Listed.{stored_none, stored_more, stored_at, stored_all}
use Rattle.rework.proofs.ending.pick_bytes.Goals as goal

pub loop-i-init : goal.loop-i-init
loop-i-init c = stored_none (search rules)

pub loop-i-preserved : goal.loop-i-preserved
loop-i-preserved c = let s = c.loop-i.invariant in
    let l = c.loop-i-test.true in
    stored_more s l (rw (c.byte_of.ensures, stored_at s 0 l))

pub returns : goal.returns
unfolding picked_bytes
returns c = stored_all c.loop-i.invariant (omega arith)
