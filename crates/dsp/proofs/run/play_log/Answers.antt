-- The log was measured, and what is lent is of the sizes that it needs.
use Rattle.std.proofs.Common.{◌≡◌, true, Ok, length, refl, sym, ap, ◌∙◌, rules, arith}
use Rattle.chip_log.specs.Measure.{measured_as}
use Rattle.chip_log.proofs.Turn.{Taken, taken}
use Rattle.dsp.specs.Fit.{fit}
use Rattle.dsp.proofs.Fits.{fit_facts}
use Rattle.dsp.proofs.Playing.{ready}
use Rattle.dsp.proofs.run.play_log.Goals as goal

pub is_room-requires : goal.is_room-requires
is_room-requires c =
    let k : c.measure.result ≡ Ok c.in_ok-m.m = search rules in
    (taken c.args.log.now (measured_as (Ok c.in_ok-m.m)) (ap measured_as (sym k) ∙ c.measure.ensures) refl).few

pub play_all-requires : goal.play_all-requires
play_all-requires c =
    let k : c.measure.result ≡ Ok c.in_ok-m.m = search rules in
    let t : Taken c.args.log.now (measured_as (Ok c.in_ok-m.m)) = taken c.args.log.now _ (ap measured_as (sym k) ∙ c.measure.ensures) refl in
    let sized : length c.args.ram.now ≡ 0x10000 = omega arith in
    let fitting : fit c.args.start ≡ true = sym c.is_fit.ensures ∙ c.if-not-is_fit.false in
    (sized, fit_facts _ fitting, ready _ _ _ _ (measured_as (Ok c.in_ok-m.m)) t (sym c.is_room.ensures ∙ c.if-not-is_room.false))
