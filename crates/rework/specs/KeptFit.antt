-- "`new` is fit and every call keeps it so": each call that hands a record back, whatever it was lent, and refused or not.
use Rattle.std.specs.Prelude.{true, List, ◌≡◌, ℕ, ◌<◌}
use Rattle.dsp.specs.PowerOn.{new_dsp}
use Rattle.dsp.specs.Fit.{fit}
use Rattle.dsp.specs.Registers.{write_of}
use Rattle.dsp.specs.Ticks.{step_of, drive_of}
use Rattle.dsp.specs.declared.registers.Dsp.{Dsp}
use Rattle.dsp.specs.declared.tick.Work.{Work}
use Rattle.dsp.specs.Run.{run_with}
use Rattle.sitting.specs.Parts.{part_of}
use Rattle.rework.specs.Rework.{rework_of, rework_new_of}
use Rattle.rework.specs.Demands.{IsRecord, Bytes}

abbrev pub IsFit : Dsp → Type 0
IsFit d = fit d ≡ true

-- `run` is `run_with everything`, `run_new` that from `new`; a rework may be given any old sheet and any two fit records
pub record EveryCallKeepsFit : Type 0 where
  pub new : IsFit new_dsp
  pub write : (index x : ℕ) (d : Dsp) → x < 256 → IsFit d → IsFit (write_of index x d).dsp
  pub step : (d : Dsp) (ram : List ℕ) → IsRecord d → IsFit d → IsFit (step_of d ram).dsp
  pub ticks : (w : Work) (n : ℕ) (d : Dsp) (ram pcm sheet : List ℕ) → IsRecord d → IsFit d → IsFit (drive_of w n d ram pcm sheet).dsp
  pub run : (w : Work) (d : Dsp) (ram log pcm sheet readings : List ℕ) → IsRecord d → Bytes log → IsFit d → IsFit (run_with w d ram log pcm sheet readings).dsp
  pub part : (d : Dsp) (at left : ℕ) (ram log pcm : List ℕ) → IsRecord d → Bytes log → IsFit d → IsFit (part_of d at left ram log pcm).told.dsp
  pub rework : (s : ℕ) (start end : Dsp) (ram log₁ log₂ pcm sheet readings : List ℕ) → IsRecord start → Bytes log₂ → IsFit start → IsFit end
      → IsFit (rework_of s start end ram log₁ log₂ pcm sheet readings).dsp
  pub rework_new : (s : ℕ) (ram log₁ log₂ pcm sheet readings : List ℕ) → Bytes log₁ → Bytes log₂ → IsFit (rework_new_of s ram log₁ log₂ pcm sheet readings).dsp
