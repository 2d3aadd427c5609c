-- After j turns the first j are chosen.
use borrow.Author.Rules.{rules}
use native.Mathlib.Nat.{mod-eq_of_lt}
use native.Mathlib.Omega.{arith}
use Rattle.std.proofs.lemmas.List.{get_or_default}
use Rattle.rework.specs.Rework.{picked}
use Rattle.rework.proofs.Listed.{stored_none, stored_more, stored_same, stored_all}
use Rattle.rework.proofs.ending.picked.Goals.{then-bit, else-bit}
use Rattle.rework.proofs.ending.picked.Goals as goal

pub loop-j-init : goal.loop-j-init
loop-j-init g c = λ d. stored_none (search rules)

pub loop-j-preserved : goal.loop-j-preserved
loop-j-preserved g c = λ d.
    let s = c.loop-j.invariant d in
    let l = c.loop-j-test.true in
    let b = rw (mod-eq_of_lt l) at c.bit.ensures in
    elim c.if-bit.branch [
      | then-bit w ↦ rw w.all-is (stored_more s l (rw (← b, w.if-bit.true) (get_or_default c.args.new _ _ _ (search rules))))
      | else-bit w ↦ rw w.all-is (stored_same s d l (rw (← b, w.if-bit.false)))
    ]

pub returns : goal.returns
unfolding picked
returns g c = λ d. stored_all (c.loop-j.invariant d) (omega arith)
