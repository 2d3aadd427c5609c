-- A record that passes the test is fit, and stays so.
use mathlib.Core.Bool.{true}
use mathlib.Core.Path.{◌≡◌, sym, ◌∙◌}
use native.Mathlib.Omega.{arith}
use lib.ListN.{length}
use borrow.Author.Tests.{eq-eqb}
use Rattle.dsp.specs.Fit.{fit}
use Rattle.dsp.specs.Ticks.{drove, drive_of}
use Rattle.dsp.proofs.Fits.{fit_facts, facts_fit}
use Rattle.dsp.proofs.registers.Dsp.ticks.Goals as goal

pub driven-requires : goal.driven-requires
driven-requires c =
    let sized : length c.args.ram.now ≡ 0x10000 = (omega arith) in
    let fitting : fit c.args.self ≡ true = (sym c.is_fit.ensures ∙ c.if-not-is_fit.false) in
    (sized, fit_facts _ fitting, omega (arith, c.ranges.count.fits), c.if-pcm-n.false, c.if-sheet-n.false)

pub returns : goal.returns
unfolding drive_of
returns c =
    let sized : length c.args.ram.now ≡ 0x10000 = (omega arith) in
    let f : fit c.args.self ≡ true = (sym c.is_fit.ensures ∙ c.if-not-is_fit.false) in
    let d = c.driven.ensures in
    (rw (eq-eqb _ _ sized, f, eq-eqb _ _ c.if-pcm-n.false, eq-eqb _ _ c.if-sheet-n.false) (λ i. drove (d.0 i)), facts_fit _ d.1 ∙ sym f)
