-- After n turns the numbers, the first n voices and the first n delays are tested.
use borrow.Author.Rules.{rules}
use mathlib.Core.Bool.{◌&&◌}
use mathlib.Core.Path.{◌≡◌, ◌∙◌, ap}
use Prim.Native.Nat.{◌<◌}
use native.Mathlib.Numerals.{add-one}
use native.Mathlib.Omega.{arith}
use lib.ListN.{get_or, length}
use Rattle.dsp.specs.Machine.{Globals}
use Rattle.dsp.specs.Fit.{globals_rule, meets}
use Rattle.dsp.proofs.Rules.{unmapped, fit_up_to, fit_none, delay-is, fit_more, fit_whole}
use Rattle.dsp.proofs.registers.Dsp.is_fit.Goals as goal

pub loop-n-init : goal.loop-n-init
loop-n-init c = c.is_fit-ok.ensures ∙ ap (λ (g : Globals). meets (globals_rule g)) c.glob.ensures ∙ fit_none c.args.self

pub loop-n-preserved : goal.loop-n-preserved
loop-n-preserved c =
    let sized : (length c.args.self.voices ≡ 8) × (length c.args.self.kon_delay ≡ 8) = (search (unmapped, rules), search rules) in
    let d = c.args.self in
    let n = c.loop-n.n in
    let t = c.loop-n-test.true in
    let l : n < length d.voices = omega arith in
    let m : n < length d.kon_delay = omega arith in
    rw add-one ((λ i. c.loop-n.invariant i && c.is_fit.ensures i && delay-is (get_or d.kon_delay n 0) i) ∙ fit_more d n l m)

pub returns : goal.returns
returns c =
    let d = c.args.self in
    let v : length d.voices ≡ 8 = search (unmapped, rules) in
    let k : length d.kon_delay ≡ 8 = search rules in
    let e : c.loop-n.n ≡ 8 = omega arith in
    c.loop-n.invariant ∙ ap (fit_up_to d) e ∙ fit_whole d v k
