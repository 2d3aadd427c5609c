-- One tick of driven, which works every lane.
use mathlib.Core.List.{[]}
use mathlib.Core.Path.{◌≡◌, refl, sym, ap, ◌∙◌}
use native.Mathlib.Omega.{arith}
use lib.ListN.{length}
use borrow.Author.Tests.{eq-eqb}
use Rattle.dsp.specs.Machine.{apart, together}
use Rattle.dsp.specs.Ticks.{Bench, After, ticked, bench_tick, ticks_of, step_of}
use Rattle.dsp.proofs.Fits.{fit_facts}
use Rattle.dsp.proofs.Whole.{tick_whole}
use Rattle.dsp.proofs.registers.Dsp.step.Goals as goal

pub driven-requires : goal.driven-requires
driven-requires c =
    let sized : length c.args.ram.now ≡ 0x10000 = (omega arith) in
    (sized, fit_facts _ (sym c.is_fit.ensures ∙ c.if-not-is_fit.false), omega arith, refl, refl)

pub returns : goal.returns
unfolding step_of ticks_of bench_tick
returns c =
    let sized : length c.args.ram.now ≡ 0x10000 = (omega arith) in
    let a = c.args in
    let d = c.driven.ensures.0 in
    let after : Bench → After = (λ (b : Bench). record { refusal = 0; dsp = together b.parts; ram = b.ram }) in
    rw (eq-eqb _ _ sized, ← c.is_fit.ensures, c.if-not-is_fit.false)
    (◌∙◌ {b = after (d 1)} (λ i. after (d i)) (ap ticked (tick_whole _ [] (apart a.self) a.ram.now)))
