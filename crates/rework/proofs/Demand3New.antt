-- Demand 3 from the power-on record: where nothing is refused before the first run, the rework of it is not refused either.
use mathlib.Core.Bool.{true}
use mathlib.Core.List.{List, [], ◌∷◌}
use mathlib.Core.Path.{◌≡◌, refl, sym, ap, ◌∙◌}
use Prim.Native.Nat.{ℕ, ◌+◌, ◌*◌}
use native.Mathlib.Omega.{arith}
use lib.ListN.{length}
use borrow.Author.Tests.{eqb-true, eqb-false}
use Rattle.numbers.specs.Choice.{◌=?◌}
use Rattle.numbers.proofs.Choice.{tested}
use Rattle.dsp.specs.Machine.{apart}
use Rattle.dsp.specs.PowerOn.{new_dsp}
use Rattle.dsp.specs.Tick.{everything}
use Rattle.dsp.specs.Ticks.{bench_of}
use Rattle.chip_log.specs.Log.{decode}
use Rattle.chip_log.specs.Measure.{ticks_in, readings_in, measure_of}
use Rattle.chip_log.specs.declared.Record.{Record}
use Rattle.chip_log.specs.declared.Record.TheVariants.{Write, Ticks, Reading}
use Rattle.dsp.specs.Run.{Outcome, run_of}
use Rattle.rework.specs.Alike.{stays, without}
use Rattle.rework.specs.Members.{modes_of, quiet}
use Rattle.rework.specs.Rework.{Left, refusal_of, rework_of, rework_new_of}
use Rattle.rework.specs.Demands.{Bytes, Reworks, Demand3New}
use Rattle.rework.proofs.Taped.{taped}
use Rattle.rework.proofs.Sheets.{sum_in, puts, measured_sums}
use Rattle.rework.proofs.Beats.{quiet-without}
use Rattle.rework.proofs.Keeps.{new_value}
use Rattle.rework.proofs.Taken.{Fitting, unrefused, run_is}
use Rattle.rework.proofs.Passed.{Unrefused, passed}
use Rattle.rework.proofs.Demand3.{same_self, demand3}

-- ---- as many ticks and readings in both logs

sum_without : (f : Record → ℕ) → ((r x : ℕ) → f (Write r x) ≡ 0) → (s : ℕ) (rs : List Record) → sum_in f (without s rs) ≡ sum_in f rs
unfolding sum_in without
sum_without f h s [] = refl
sum_without f h s (Write r x ∷ rs) =
    let e = sum_without f h s rs in
    let z = h r x in
    tested (λ (l : List Record). sum_in f l ≡ f (Write r x) + sum_in f rs) (stays s (Write r x)) (λ _. rw e) (λ _. omega arith)
sum_without f h s (Ticks n ∷ rs) = rw (sum_without f h s rs)
sum_without f h s (Reading r ∷ rs) = rw (sum_without f h s rs)

sums_same : (f : Record → ℕ) → ((r x : ℕ) → f (Write r x) ≡ 0) → (s : ℕ) (rs qs : List Record) → without s rs ≡ without s qs → sum_in f rs ≡ sum_in f qs
sums_same f h s rs qs e = sym (sum_without f h s rs) ∙ ap (sum_in f) e ∙ sum_without f h s qs

-- ---- the first run, and the rework of it

module _ (s : ℕ) (ram log₁ log₂ pcm sheet readings : List ℕ) (b₁ : Bytes log₁) (b₂ : Bytes log₂) where
  abbrev second : Outcome
  second = run_of new_dsp ram log₂ pcm sheet readings

  abbrev first : Outcome
  first = run_of new_dsp ram log₁ pcm sheet readings

  -- both logs have as many ticks and readings
  pub same_totals : Unrefused s new_dsp new_dsp ram log₁ log₂ → ((measure_of log₁).ticks ≡ (measure_of log₂).ticks) × ((measure_of log₁).readings ≡ (measure_of log₂).readings)
  same_totals u =
      let m = measured_sums log₁ u.first in
      let n = measured_sums log₂ u.second in (
        m.0 ∙ sums_same ticks_in (λ r x. refl) s (decode log₁).records (decode log₂).records u.logs ∙ sym n.0,
        m.1 ∙ sums_same readings_in (λ r x. refl) s (decode log₁).records (decode log₂).records u.logs ∙ sym n.1,
      )

  module _ (u : Unrefused s new_dsp new_dsp ram log₁ log₂) (f : Fitting new_dsp ram log₁ pcm sheet readings) where
    -- what is lent fits the second log too
    pub fits_second : Fitting new_dsp ram log₂ pcm sheet readings
    fits_second =
        let t = (same_totals u).0 in
        let q = (same_totals u).1 in
        record { ram_whole = f.ram_whole; fits = f.fits; taken = u.second; sounds = f.sounds ∙ ap (λ (k : ℕ). k * 4) t; shown = f.shown ∙ ap (λ (k : ℕ). k * 36) t; told = f.told ∙ q }

    -- and the first run leaves as much as it was lent
    lengths : (length first.pcm ≡ length pcm) × (length first.readings ≡ length readings)
    lengths =
        let i = run_is everything new_dsp ram log₁ pcm sheet readings f in
        let p = taped everything (decode log₁).records (bench_of new_dsp ram sheet) [] in
        let c = puts everything (decode log₁).records sheet (apart new_dsp) ram in
        let m = measured_sums log₁ u.first in (
          (λ j. length (i j).pcm) ∙ ap length p.pcm ∙ c.pcm ∙ ap (λ (k : ℕ). k * 4) (sym m.0) ∙ sym f.sounds,
          (λ j. length (i j).readings) ∙ ap length p.readings ∙ c.readings ∙ sym m.1 ∙ sym f.told,
        )

    pub reworks : Reworks s new_dsp log₂ first second (rework_of s new_dsp first.dsp ram log₁ log₂ first.pcm first.sheet first.readings)
    reworks =
        let q : quiet (decode log₁).records (modes_of new_dsp) ≡ true = sym (quiet-without s (decode log₁).records (modes_of new_dsp)) ∙ (λ i. quiet (u.logs i) (modes_of new_dsp)) ∙ quiet-without s (decode log₂).records (modes_of new_dsp) ∙ u.still in
        demand3 s new_dsp new_dsp ram log₁ log₂ pcm sheet readings pcm sheet readings first.pcm first.readings new_value new_value b₁ b₂ (same_self s (apart new_dsp)) u.logs q
        (λ i. (run_is everything new_dsp ram log₁ pcm sheet readings f i).refusal) (λ i. (run_is everything new_dsp ram log₂ pcm sheet readings fits_second i).refusal)
        lengths.0 lengths.1

pub demand3_new : Demand3New
unfolding rework_new_of
demand3_new s ram log₁ log₂ pcm sheet readings b₁ b₂ =
    let o = run_of new_dsp ram log₁ pcm sheet readings in
    let P : Left → Type 0 = (λ x. x.refusal ≡ 0 → Reworks s new_dsp log₂ o (run_of new_dsp ram log₂ pcm sheet readings) x) in
    tested P (refusal_of s new_dsp new_dsp ram log₁ log₂ =? 0)
    (λ e. tested P (o.refusal =? 0)
    (λ f _. reworks s ram log₁ log₂ pcm sheet readings b₁ b₂ (passed s new_dsp new_dsp ram log₁ log₂ (eqb-true _ _ e)) (unrefused everything new_dsp ram log₁ pcm sheet readings (eqb-true _ _ f)))
    (λ f z. absurd (eqb-false _ _ f z)))
    (λ e z. absurd (eqb-false _ _ e z))
