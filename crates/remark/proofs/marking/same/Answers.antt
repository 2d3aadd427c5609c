-- The count so far, with those that are left, gives the whole.
use native.Mathlib.Omega.{arith}
use Rattle.remark.proofs.Marks.{same_end, same_more}
use Rattle.remark.proofs.marking.same.Goals as goal

pub loop-i-preserved : goal.loop-i-preserved
loop-i-preserved c = let l = c.loop-i in
    let k = c.kept-count.ensures in
    (omega arith, same_more _ _ l.i l.count (omega arith) (omega arith) k.0 l.invariant.1)

pub returns : goal.returns
returns c = let l = c.loop-i in
    let z = same_end c.args.before.now c.args.after.now l.i (omega arith) in
    omega (arith, l.invariant.1, z)
