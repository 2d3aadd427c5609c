-- What a rework rests on: RAM has its length where nothing is refused, and a refused run hands back its record.
use mathlib.Core.Bool.{not, ◌&&◌}
use mathlib.Core.List.{List}
use mathlib.Core.Logic.{◌≢◌}
use mathlib.Core.Path.{◌≡◌, refl}
use Prim.Native.Nat.{ℕ, ◌*◌}
use native.Mathlib.Omega.{arith}
use lib.ListN.{length}
use borrow.Author.Tests.{eqb-true, not-false}
use Rattle.numbers.specs.Choice.{◌=?◌}
use Rattle.numbers.proofs.Choice.{tested}
use Rattle.dsp.specs.declared.registers.Dsp.{Dsp}
use Rattle.chip_log.specs.Measure.{measure_of}
use Rattle.dsp.specs.Fit.{fit}
use Rattle.dsp.specs.declared.tick.Work.{Work}
use Rattle.dsp.specs.Run.{Outcome, run_measured, run_with}
use Rattle.rework.specs.Rework.{refusal_of}

-- a refused run hands back the record that it was given
pub given : (w : Work) (d : Dsp) (ram log pcm sheet readings : List ℕ) → (run_with w d ram log pcm sheet readings).refusal ≢ 0 → (run_with w d ram log pcm sheet readings).dsp ≡ d
unfolding run_with run_measured
given w d ram log pcm sheet readings =
    let m = measure_of log in
    let P : Outcome → Type 0 = λ o. o.refusal ≢ 0 → o.dsp ≡ d in
    tested P (length ram =? 0x10000)
    (λ _. tested P (fit d)
    (λ _. tested P (m.refusal =? 0)
    (λ _. tested P ((length pcm =? m.ticks * 4) && (length sheet =? m.ticks * 36) && (length readings =? m.readings)) (λ _ h. absurd (h refl)) (λ _ h. refl))
    (λ _ h. refl))
    (λ _ h. refl))
    (λ _ h. refl)

-- RAM has its length, where nothing is refused
pub ram_whole : (s : ℕ) (start end : Dsp) (ram log₁ log₂ : List ℕ) → refusal_of s start end ram log₁ log₂ ≡ 0 → length ram ≡ 0x10000
unfolding refusal_of
ram_whole s start end ram log₁ log₂ =
    tested (λ (k : ℕ). k ≡ 0 → length ram ≡ 0x10000) (not (length ram =? 0x10000)) (λ _ e. absurd (omega arith)) (λ f _. eqb-true _ _ (not-false _ f))
