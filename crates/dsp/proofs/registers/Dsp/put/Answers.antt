-- By the kind of register.
use mathlib.Core.Bool.{◌&&◌}
use mathlib.Core.Path.{◌≡◌, ◌∙◌, sym, ap}
use Prim.Native.Nat.{ℕ}
use lib.ListN.{set}
use mir.Syntax.{w8}
use Rattle.numbers.specs.Choice.{◌=?◌, ◌≤?◌}
use Rattle.numbers.proofs.Range.{landed}
use Rattle.dsp.specs.Registers.{resets, globals_after}
use Rattle.dsp.specs.Inside.{with_globals}
use Rattle.dsp.specs.declared.registers.Dsp.{Dsp}
use Rattle.dsp.proofs.Writes.{reset_tested, changed, stored, reset, globals_written, voice-write, tap_write, plain-write, reset_write}
use Rattle.dsp.proofs.registers.Dsp.put.Goals as goal

pub returns-then-off-lt8 : goal.returns-then-off-lt8
returns-then-off-lt8 c = rw (c.byte_left.ensures, c.write-w.ensures) (sym (voice-write _ _ _ c.if-off-lt8.true))

pub returns-then-off-eq15 : goal.returns-then-off-eq15
returns-then-off-eq15 c = rw (c.byte_left.ensures, landed w8 c.signed8.type_inv, c.signed8.ensures) (sym (tap_write _ _ _ c.if-off-eq15.true))

pub returns-then-idx-value : goal.returns-then-idx-value
returns-then-idx-value c =
    let reset_is : (let a = c.args in resets a.idx a.value ≡ ((a.idx =? 0x6C) && (0x80 ≤? a.value))) = (reset_tested c.args.idx _ c.ranges.value.fits) in
    let written : (let a = c.args in c.with_glob-d.result ≡ globals_written a.idx a.value (stored a.idx a.value a.self.voices a.self.fir_coeff a.self)) = (let a = c.args in
    let s : ℕ → Dsp = λ (y : ℕ). changed (set a.self.registers a.idx y) a.self.voices a.self.fir_coeff a.self in
    c.with_glob-d.ensures
    ∙ ap (with_globals (s c.byte_left.result)) (c.write-h.ensures ∙ ap (globals_after a.idx a.value) c.glob-g.ensures)
    ∙ (λ k. globals_written a.idx a.value (s (c.byte_left.ensures k)))) in
    rw c.silence_all-cut.ensures (ap reset written ∙ sym (reset_write _ _ _ c.if-off-lt8.false c.if-off-eq15.false (reset_is ∙ c.if-idx-value.true)))

pub returns-else-idx-value : goal.returns-else-idx-value
returns-else-idx-value c =
    let reset_is : (let a = c.args in resets a.idx a.value ≡ ((a.idx =? 0x6C) && (0x80 ≤? a.value))) = (reset_tested c.args.idx _ c.ranges.value.fits) in
    let written : (let a = c.args in c.with_glob-d.result ≡ globals_written a.idx a.value (stored a.idx a.value a.self.voices a.self.fir_coeff a.self)) = (let a = c.args in
    let s : ℕ → Dsp = λ (y : ℕ). changed (set a.self.registers a.idx y) a.self.voices a.self.fir_coeff a.self in
    c.with_glob-d.ensures
    ∙ ap (with_globals (s c.byte_left.result)) (c.write-h.ensures ∙ ap (globals_after a.idx a.value) c.glob-g.ensures)
    ∙ (λ k. globals_written a.idx a.value (s (c.byte_left.ensures k)))) in
    written ∙ sym (plain-write _ _ _ c.if-off-lt8.false c.if-off-eq15.false (reset_is ∙ c.if-idx-value.false))
