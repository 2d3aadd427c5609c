-- What is left to hear from here gives the whole.
use borrow.Author.Rules.{rules}
use mathlib.Core.Path.{◌≡◌, sym, ap, ◌∙◌}
use Prim.Native.Nat.{ℕ, ◌+◌}
use native.Mathlib.Omega.{arith}
use mir.Syntax.{w16}
use mir.Val.{to_z}
use Rattle.numbers.proofs.Range.{landed}
use Rattle.dsp.specs.Inside.{as_sounding}
use Rattle.dsp.proofs.Plays.{history_read, heard_to, none_heard, one_heard, all-heard}
use Rattle.dsp.proofs.play.Play.heard.Goals as goal

pub loop-i-init : goal.loop-i-init
loop-i-init c = let p = c.args.self in
    (search rules, none_heard _ _ p _ _ _ _ _ (omega arith) (history_read p (search rules)))

pub loop-i-preserved : goal.loop-i-preserved
loop-i-preserved c = let l = c.loop-i in
    (search rules, one_heard _ _ _ _ _ _ _ _ _ _ _ (omega arith) (landed w16 (search rules)) l.invariant.1)

pub returns : goal.returns
returns c = let l = c.loop-i in
    let a = c.args in
    let e : l.i ≡ a.self.nibble_idx + a.n = omega (arith, l.invariant.0, c.loop-i-test.false) in
    λ v y f endx.
    ap (λ (k : ℕ). as_sounding v y (heard_to a.self k (to_z w16 l.a-bits) (to_z w16 l.b-bits) (to_z w16 l.c-bits) (to_z w16 l.d-bits)) f a.samples.now endx) (sym e)
    ∙ all-heard _ _ _ _ _ (omega (arith, e)) l.invariant.1 v y f endx
