-- A run of a log from a record: its refusals in their order, and what it leaves (document 01, "Refusal numbers", "Log, sheet, program").
use Rattle.std.specs.Prelude.{◌&&◌, List, ℕ, ◌*◌, length, Result, Ok, Err, if◌then◌else◌}
use Rattle.numbers.specs.Choice.{◌=?◌}
use Rattle.dsp.specs.Machine.{together}
use Rattle.dsp.specs.Fit.{fit}
use Rattle.dsp.specs.Tick.{everything}
use Rattle.dsp.specs.declared.registers.Dsp.{Dsp}
use Rattle.dsp.specs.declared.tick.Work.{Work}
use Rattle.dsp.specs.declared.run.Ran.{Ran}
use Rattle.refusal.specs.Refusal.{number}
use Rattle.refusal.specs.declared.Refused.{Refused}
use Rattle.chip_log.specs.Log.{decode}
use Rattle.chip_log.specs.Measure.{measure_of}
use Rattle.chip_log.specs.Measure.{Measured}
use Rattle.dsp.specs.Play.{Run, play_all, starting}

-- what a call leaves: its answer, and the lent slices
pub record Outcome : Type 0 where
  pub refusal : ℕ
  pub dsp : Dsp
  pub ticks : ℕ
  pub count : ℕ
  pub ram : List ℕ
  pub pcm : List ℕ
  pub sheet : List ℕ
  pub readings : List ℕ

-- "a refusal answers its number, the record given and zeros elsewhere; RAM, sheet and outputs keep their bytes"
abbrev pub unrun : ℕ → Dsp → List ℕ → List ℕ → List ℕ → List ℕ → Outcome
unrun k d ram pcm sheet readings =
    record { refusal = k; dsp = d; ticks = 0; count = 0; ram = ram; pcm = pcm; sheet = sheet; readings = readings }

-- an answer of a run, with what it leaves in the lent slices, in these words
abbrev pub outcome : Result Ran (Refused Dsp) → List ℕ → List ℕ → List ℕ → List ℕ → Outcome
outcome (Ok r) ram pcm sheet readings =
    record { refusal = 0; dsp = r.dsp; ticks = r.ticks; count = r.readings; ram = ram; pcm = pcm; sheet = sheet; readings = readings }
outcome (Err e) ram pcm sheet readings = unrun (number e.refusal) e.given ram pcm sheet readings

abbrev pub ran : Measured → Run → Outcome
ran m s =
    record {
      refusal = 0;
      dsp = together s.bench.parts;
      ticks = m.ticks;
      count = m.readings;
      ram = s.bench.ram;
      pcm = s.bench.pcm;
      sheet = s.bench.sheet;
      readings = s.readings;
    }

-- 10: PCM 4, sheet 36 bytes a tick, one byte a reading, exactly. A lane that is not worked is shown from the sheet as it was found
unfoldable pub run_measured : Work → Measured → Dsp → List ℕ → List ℕ → List ℕ → List ℕ → List ℕ → Outcome
run_measured w m d ram log pcm sheet readings =
    if m.refusal =? 0 then
    (if (length pcm =? m.ticks * 4) && (length sheet =? m.ticks * 36) && (length readings =? m.readings) then
    ran m (play_all w (decode log).records (starting d ram sheet))
    else unrun 10 d ram pcm sheet readings)
    else unrun m.refusal d ram pcm sheet readings

-- 1: the RAM slice isn't 65,536 bytes; 2: the record is unfit; 3 to 9: the log's; then 10
unfoldable pub run_with : Work → Dsp → List ℕ → List ℕ → List ℕ → List ℕ → List ℕ → Outcome
run_with w d ram log pcm sheet readings =
    if length ram =? 0x10000 then
    (if fit d then run_measured w (measure_of log) d ram log pcm sheet readings else unrun 2 d ram pcm sheet readings)
    else unrun 1 d ram pcm sheet readings

-- a run works every lane, and so does not see what stood in the sheet (`all_unseen`)
abbrev pub run_of : Dsp → List ℕ → List ℕ → List ℕ → List ℕ → List ℕ → Outcome
run_of d ram log pcm sheet readings = run_with everything d ram log pcm sheet readings
