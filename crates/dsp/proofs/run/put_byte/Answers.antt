-- By the two tests; what the first one leaves of the taps is the definition's either way.
use mathlib.Core.Bool.{◌&&◌}
use mathlib.Core.List.{List}
use mathlib.Core.Path.{◌≡◌, ◌∙◌, ap}
use mir.Syntax.{w8}
use lib.IntN.{ℤ}
use lib.ListN.{length}
use borrow.Author.Tests.{eq-eqb, ne_eqb}
use Rattle.numbers.specs.Choice.{◌=?◌, ◌≤?◌}
use Rattle.numbers.proofs.Range.{landed}
use Rattle.dsp.specs.Registers.{resets, taps_after}
use Rattle.dsp.proofs.Writes.{reset_tested, reset_byte, taps_many}
use Rattle.dsp.proofs.run.put_byte.Goals as goal
use Rattle.dsp.proofs.run.put_byte.Goals.{then-register-eq15, else-register-eq15}

pub shape_of-taps-then-register-value : goal.shape_of-taps-then-register-value
shape_of-taps-then-register-value c =
    let taps_are : let a = c.args in c.if-register-eq15.taps ≡ taps_after a.register a.value a.taps.now = (elim c.if-register-eq15.branch [
      | then-register-eq15 w ↦ w.taps-is ∙ rw (eq-eqb _ _ w.if-register-eq15.true, landed w8 w.signed8.type_inv, w.signed8.ensures)
      | else-register-eq15 w ↦ w.taps-is ∙ rw (ne_eqb _ _ w.if-register-eq15.false)
    ]) in
    let as_many : length c.if-register-eq15.taps ≡ length c.args.taps.now = (let a = c.args in ap (λ (ys : List ℤ). length ys) taps_are ∙ taps_many a.register a.value a.taps.now) in
    as_many

pub returns-then-register-value : goal.returns-then-register-value
returns-then-register-value c =
    let taps_are : let a = c.args in c.if-register-eq15.taps ≡ taps_after a.register a.value a.taps.now = (elim c.if-register-eq15.branch [
      | then-register-eq15 w ↦ w.taps-is ∙ rw (eq-eqb _ _ w.if-register-eq15.true, landed w8 w.signed8.type_inv, w.signed8.ensures)
      | else-register-eq15 w ↦ w.taps-is ∙ rw (ne_eqb _ _ w.if-register-eq15.false)
    ]) in
    let reset_is : let a = c.args in resets a.register a.value ≡ ((a.register =? 0x6C) && (0x80 ≤? a.value)) = (reset_tested c.args.register _ c.ranges.value.fits) in
    let t = reset_is ∙ c.if-register-value.true in
    let a = c.args in
    (rw (t, c.byte_left.ensures, reset_byte a.register a.value t), taps_are)

pub shape_of-taps-else-register-value : goal.shape_of-taps-else-register-value
shape_of-taps-else-register-value c =
    let taps_are : let a = c.args in c.if-register-eq15.taps ≡ taps_after a.register a.value a.taps.now = (elim c.if-register-eq15.branch [
      | then-register-eq15 w ↦ w.taps-is ∙ rw (eq-eqb _ _ w.if-register-eq15.true, landed w8 w.signed8.type_inv, w.signed8.ensures)
      | else-register-eq15 w ↦ w.taps-is ∙ rw (ne_eqb _ _ w.if-register-eq15.false)
    ]) in
    let as_many : length c.if-register-eq15.taps ≡ length c.args.taps.now = (let a = c.args in ap (λ (ys : List ℤ). length ys) taps_are ∙ taps_many a.register a.value a.taps.now) in
    as_many

pub returns-else-register-value : goal.returns-else-register-value
returns-else-register-value c =
    let taps_are : let a = c.args in c.if-register-eq15.taps ≡ taps_after a.register a.value a.taps.now = (elim c.if-register-eq15.branch [
      | then-register-eq15 w ↦ w.taps-is ∙ rw (eq-eqb _ _ w.if-register-eq15.true, landed w8 w.signed8.type_inv, w.signed8.ensures)
      | else-register-eq15 w ↦ w.taps-is ∙ rw (ne_eqb _ _ w.if-register-eq15.false)
    ]) in
    let reset_is : let a = c.args in resets a.register a.value ≡ ((a.register =? 0x6C) && (0x80 ≤? a.value)) = (reset_tested c.args.register _ c.ranges.value.fits) in
    (rw (reset_is ∙ c.if-register-value.false, c.byte_left.ensures), taps_are)
