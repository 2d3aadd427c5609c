-- Demand 1: every entry refuses by document 01's table, and hands back what it got.
use mathlib.Core.List.{List, ◌∷◌}
use mathlib.Core.Path.{◌≡◌, refl, sym}
use Prim.Native.Nat.{ℕ, ◌*◌}
use lib.IntN.{pos}
use lib.ListN.{length}
use Rattle.numbers.specs.Choice.{◌=?◌}
use Rattle.dsp.specs.Fit.{fit}
use Rattle.dsp.specs.Registers.{Written, write_of}
use Rattle.dsp.specs.Mix.{Rendered, render_of}
use Rattle.dsp.specs.Ticks.{refused, step_of, undriven, drive_of}
use Rattle.dsp.specs.PowerOn.{new_dsp}
use Rattle.dsp.specs.Tick.{everything}
use Rattle.dsp.proofs.Fits.{new-fit}
use Rattle.rework.specs.Refusals.{◌when◌, first_of, ram_is_not_whole}
use Rattle.rework.specs.Rework.{unreworked, refusal_of, rework_new_of}
use Rattle.rework.specs.Demands.{Bytes, Exactly, other_lengths, of_room, of_logs, Demand1}
use Rattle.rework.proofs.Taken.{unrefused}
use Rattle.rework.proofs.Passed.{passed}
use Rattle.rework.proofs.Faults.{measure_said}
use Rattle.rework.proofs.Refused.{exactly, answered, restated, numbered, guarded, measure-refused, run_exactly, ran_said, part_exactly, early_said, rework_exactly}
use Rattle.rework.proofs.Demand3New.{reworks, same_totals}

module _ (s : ℕ) (ram log₁ log₂ pcm sheet readings : List ℕ) where
  abbrev conditions : List ℕ
  conditions = (1 when ram_is_not_whole ram) ∷ of_logs s new_dsp log₁ log₂ pcm sheet readings

  -- `new` is fit, twice
  new_said : first_of conditions ≡ first_of (refusal_of s new_dsp new_dsp ram log₁ log₂ ∷ of_room log₂ pcm sheet readings)
  unfolding first_of
  new_said = rw new-fit at (early_said s new_dsp new_dsp ram log₁ log₂ pcm sheet readings)

  rework-new_exactly : Bytes log₁ → Bytes log₂
      → Exactly (λ a. a.refusal) (rework_new_of s ram log₁ log₂ pcm sheet readings) conditions (λ k. unreworked k new_dsp pcm sheet readings)
  unfolding rework_new_of
  rework-new_exactly b₁ b₂ =
      exactly (λ k. unreworked k new_dsp pcm sheet readings) (λ a. a.refusal)
      (restated new_said (numbered (refusal_of s new_dsp new_dsp ram log₁ log₂) refl (λ z.
      let u = passed s new_dsp new_dsp ram log₁ log₂ z in
      let t = same_totals s ram log₁ log₂ pcm sheet readings b₁ b₂ u in
      restated (λ i. first_of (other_lengths (sym t.0 i) (sym t.1 i) pcm sheet readings)) (ran_said everything new_dsp ram log₁ pcm sheet readings _ u.whole u.fits u.first
      (λ e. (reworks s ram log₁ log₂ pcm sheet readings b₁ b₂ u (unrefused everything new_dsp ram log₁ pcm sheet readings e)).refusal)))))

pub demand1 : Demand1
unfolding write_of render_of step_of drive_of
demand1 =
    record {
      write = λ index x d. exactly {A = Written} (λ k. record { refusal = k; dsp = d }) (λ a. a.refusal) (guarded (fit d) 2 refl refl (answered refl));
      render = λ d. exactly {A = Rendered} (λ k. record { refusal = k; left = pos 0; right = pos 0 }) (λ a. a.refusal) (guarded (fit d) 2 refl refl (answered refl));
      step = λ d ram. exactly (λ k. refused k d ram) (λ a. a.refusal) (guarded (length ram =? 0x10000) 1 refl refl (guarded (fit d) 2 refl refl (answered refl)));
      ticks = λ w n d ram pcm sheet.
          exactly (λ k. undriven k d ram pcm sheet) (λ a. a.refusal)
          (guarded (length ram =? 0x10000) 1 refl refl (guarded (fit d) 2 refl refl
          (guarded (length pcm =? n * 4) 10 refl refl (guarded (length sheet =? n * 36) 10 refl refl (answered refl)))));
      measure = λ log. (measure_said log, measure-refused log);
      run = run_exactly;
      part = part_exactly;
      rework = rework_exactly;
      rework_new = rework-new_exactly;
    }
