-- By the refusals, in their order; then the record that stands there, or ticks.
use Rattle.std.proofs.Common.{◌≡◌, true, length, sym, ◌∙◌, arith}
use borrow.Author.Tests.{eq-eqb, ne_eqb, le-ltb}
use Rattle.dsp.specs.Fit.{fit}
use Rattle.dsp.proofs.Fits.{fit_facts}
use Rattle.sitting.specs.Parts.{log_refusal, part_of}
use Rattle.sitting.proofs.Parting.{sound_goes}
use Rattle.sitting.proofs.parts.run_part.Goals as goal

pub at_record-requires : goal.at_record-requires
at_record-requires c =
    let fitting : fit c.args.stage.dsp ≡ true = (sym c.is_fit.ensures ∙ c.if-not-is_fit.false) in
    (omega arith, fit_facts _ fitting)

pub ticks_now-n-requires : goal.ticks_now-n-requires
ticks_now-n-requires c = (let l = c.if-stage-eq0.false in omega (arith, l), let l = c.if-pcm-lt4.false in omega (arith, l))

pub sounded-requires : goal.sounded-requires
sounded-requires c =
    let sized : length c.args.ram.now ≡ 0x10000 = (omega arith) in
    let fitting : fit c.args.stage.dsp ≡ true = (sym c.is_fit.ensures ∙ c.if-not-is_fit.false) in
    let t = c.ticks_now-n.ensures in
    (sized, fit_facts _ fitting, t.2, t.3, t.4)

pub returns : goal.returns
unfolding part_of
returns c =
    let sized : length c.args.ram.now ≡ 0x10000 = (omega arith) in
    let fitting : fit c.args.stage.dsp ≡ true = (sym c.is_fit.ensures ∙ c.if-not-is_fit.false) in
    let taken : log_refusal c.args.stage.at c.args.log.now ≡ 0 = sym c.in_default.ensures in
    let t = c.ticks_now-n.ensures in
    let e = c.sounded.ensures in
    (rw (eq-eqb _ _ sized, fitting, eq-eqb _ _ taken, ne_eqb _ _ c.if-stage-eq0.false, le-ltb _ _ c.if-pcm-lt4.false, ← t.0) e, sound_goes _ _ _ _ _ _ _ e t.1 t.2)
