-- A run that is not refused: what was lent and given, and what it is.
use mathlib.Core.Bool.{true, ◌&&◌}
use mathlib.Core.List.{List}
use mathlib.Core.Path.{◌≡◌}
use Prim.Native.Nat.{ℕ, ◌*◌}
use native.Mathlib.Omega.{arith}
use lib.ListN.{length}
use borrow.Author.Tests.{eqb-true, eqb-false, eq-eqb}
use Rattle.numbers.specs.Choice.{◌=?◌}
use Rattle.numbers.proofs.Choice.{tested}
use Rattle.dsp.specs.Fit.{fit}
use Rattle.dsp.specs.declared.registers.Dsp.{Dsp}
use Rattle.dsp.specs.declared.tick.Work.{Work}
use Rattle.dsp.proofs.Tests.{eq, ◌and◌}
use Rattle.chip_log.specs.Log.{decode}
use Rattle.chip_log.specs.Measure.{measure_of}
use Rattle.dsp.specs.Play.{play_all, starting}
use Rattle.dsp.specs.Run.{Outcome, ran, run_measured, run_with}

pub record Fitting (d : Dsp) (ram log pcm sheet readings : List ℕ) : Type 0 where
  pub ram_whole : length ram ≡ 0x10000
  pub fits : fit d ≡ true
  pub taken : (measure_of log).refusal ≡ 0
  pub sounds : length pcm ≡ (measure_of log).ticks * 4
  pub shown : length sheet ≡ (measure_of log).ticks * 36
  pub told : length readings ≡ (measure_of log).readings

module _ (w : Work) (d : Dsp) (ram log pcm sheet readings : List ℕ) where
  pub unrefused : (run_with w d ram log pcm sheet readings).refusal ≡ 0 → Fitting d ram log pcm sheet readings
  unfolding run_with run_measured
  unrefused =
      let m = measure_of log in
      let P : Outcome → Type 0 = (λ o. o.refusal ≡ 0 → Fitting d ram log pcm sheet readings) in
      tested P (length ram =? 0x10000) (λ a. tested P (fit d) (λ b. tested P (m.refusal =? 0)
      (λ c. tested P ((length pcm =? m.ticks * 4) && (length sheet =? m.ticks * 36) && (length readings =? m.readings))
      (λ e _. let f = (eq (length pcm) (m.ticks * 4) and eq (length sheet) (m.ticks * 36) and eq (length readings) m.readings).sound e in
      record { ram_whole = eqb-true _ _ a; fits = b; taken = eqb-true _ _ c; sounds = f.0.0; shown = f.0.1; told = f.1 })
      (λ _ z. absurd (omega arith))) (λ c z. absurd (eqb-false _ _ c z))) (λ _ z. absurd (omega arith))) (λ _ z. absurd (omega arith))

  pub run_is : Fitting d ram log pcm sheet readings → run_with w d ram log pcm sheet readings ≡ ran (measure_of log) (play_all w (decode log).records (starting d ram sheet))
  unfolding run_with run_measured
  run_is h =
      let m = measure_of log in
      rw (eq-eqb (length ram) 0x10000 h.ram_whole, h.fits, eq-eqb m.refusal 0 h.taken, eq-eqb (length pcm) (m.ticks * 4) h.sounds, eq-eqb (length sheet) (m.ticks * 36) h.shown, eq-eqb (length readings) m.readings h.told)
