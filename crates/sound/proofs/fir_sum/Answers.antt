-- After i turns the local holds the bits of i taps' sum, which is small enough to add one more.
use borrow.Author.Rules.{rules}
use mathlib.Core.Path.{◌∙◌, ap, refl}
use native.Mathlib.Omega.{arith}
use native.Mathlib.Numerals.{add-one}
use lib.IntN.{◌+ℤ◌}
use mir.Syntax.{w32}
use mir.Val.{to_z, of_z}
use Rattle.numbers.proofs.Range.{Q, fits, reads, q_add, q_read, q_by}
use Rattle.sound.specs.Sound.{fir_sum}
use Rattle.sound.proofs.Filter.{q_tapped, sum_grows, q_sum}
use Rattle.sound.proofs.fir_sum.Goals as goal

pub loop-i-init : goal.loop-i-init
unfolding fir_sum
loop-i-init c = (search rules, search rules, refl)

pub overflow_add-sum : goal.overflow_add-sum
overflow_add-sum c =
    let q_tap : Q c.fir_tap-sum.result = (let s = c in
    q_tapped s.args.h s.args.taps s.loop-i.i c.fir_tap-sum.ensures c.fir_tap-arg-1.given c.fir_tap-arg-in-loop-i-1.given) in
    let q_next : Q (to_z w32 c.loop-i.sum-bits +ℤ to_z w32 (of_z w32 c.fir_tap-sum.result)) = (let l = c.loop-i in
    q_add (q_by l.invariant.2 (q_sum _ _ l.i l.invariant.0 l.invariant.1)) (q_read w32 q_tap)) in
    fits q_next tt

pub loop-i-preserved : goal.loop-i-preserved
unfolding fir_sum
loop-i-preserved c =
    let q_tap : Q c.fir_tap-sum.result = (let s = c in
    q_tapped s.args.h s.args.taps s.loop-i.i c.fir_tap-sum.ensures c.fir_tap-arg-1.given c.fir_tap-arg-in-loop-i-1.given) in
    let q_next : Q (to_z w32 c.loop-i.sum-bits +ℤ to_z w32 (of_z w32 c.fir_tap-sum.result)) = (let l = c.loop-i in
    q_add (q_by l.invariant.2 (q_sum _ _ l.i l.invariant.0 l.invariant.1)) (q_read w32 q_tap)) in
    let l = c.loop-i in
    (search rules, rw add-one (sum_grows _ _ l.i l.invariant.1 (q_tap.within tt)), rw add-one (reads (q_read w32 q_next) tt))

pub returns : goal.returns
returns c = let l = c.loop-i in
    reads (q_by l.invariant.2 (q_sum _ _ l.i l.invariant.0 l.invariant.1)) tt ∙ ap (fir_sum _ _) (omega arith)
