-- What is left from here gives the numbers that are still to be listed.
use Prim.Native.Nat.{◌+◌, ◌<◌}
use native.Mathlib.Omega.{arith}
use lib.ListN.{length}
use Rattle.report.proofs.Filling.{long, ended, one_put, renamed, seen_as}
use Rattle.remark.specs.Marking.{greatest}
use Rattle.remark.proofs.Marks.{changed-end, changed_here, kept_here, greatest-both}
use Rattle.remark.proofs.marking.changed.Goals as goal
use Rattle.remark.proofs.marking.changed.Goals.{then-not-same_at, else-not-same_at}

pub loop-i-preserved : goal.loop-i-preserved
loop-i-preserved c =
    let room : c.loop-i.put < length c.loop-i.to = (let f = c.loop-i.invariant in omega (arith, long f, f.room, c.if-put-to.false)) in
    let l = c.loop-i in
    let f = l.invariant in
    let h = c.loop-i-test.true in
    let g : l.i < greatest (length c.args.before.now) (length c.args.after.now) = omega arith in
    let e = c.same_at.ensures in
    elim c.if-not-same_at.branch [
      | then-not-same_at w ↦
          seen_as (one_put f (l.i + 1) (changed_here _ _ l.i e (l.i + 1) g w.if-not-same_at.true) (omega (arith, room, long f))) w.to-is w.put-is
      | else-not-same_at w ↦ seen_as (renamed f (kept_here _ _ l.i e (l.i + 1) g w.if-not-same_at.false)) w.to-is w.put-is
    ]

pub returns : goal.returns
returns c = let l = c.loop-i in
    let g = greatest-both (length c.args.before.now) (length c.args.after.now) in
    let r = ended l.invariant (changed-end _ _ l.i (l.i + 1) (omega (arith, g.0)) (omega (arith, g.1))) in
    (r.0, r.1)
