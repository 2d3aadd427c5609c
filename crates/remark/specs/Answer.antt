-- The program's answer: the old log run from power-on and reworked to the new one, and the readings of both compared.
use Rattle.std.specs.Prelude.{Bool, true, false, List, ◌++◌, ℕ, length, take, drop, Result, Ok, Err, if◌then◌else◌}
use Rattle.numbers.specs.Bytes.{copied}
use Rattle.numbers.specs.Choice.{◌=?◌}
use Rattle.numbers.specs.Unsigned.{least}
use Rattle.dsp.specs.PowerOn.{new_dsp}
use Rattle.dsp.specs.declared.registers.Dsp.{Dsp}
use Rattle.chip_log.specs.Measure.{measure_of}
use Rattle.dsp.specs.Run.{Outcome}
use Rattle.rework.specs.Rework.{Left, rework_of}
use Rattle.report.specs.Runs.{room_in, run_cut, registers_in}
use Rattle.report.specs.declared.runs.Room.{Room}
use Rattle.remark.specs.Marking.{same, changed, verdict_of}
use Rattle.remark.specs.declared.marking.Verdict.{Verdict}
use Rattle.remark.specs.declared.answer.Unworked.{Unworked}
use Rattle.remark.specs.declared.answer.Unworked.TheVariants.{Old, New}
use Rattle.refusal.specs.Refusal.{number}

-- ---- a rework that is lent the first bytes of each slice, as many as the new log needs; what stands behind them stays

abbrev pub with_the_rest : Room → List ℕ → List ℕ → List ℕ → Left → Left
with_the_rest n pcm sheet readings x =
    record {
      refusal = x.refusal;
      dsp = x.dsp;
      members = x.members;
      count = x.count;
      sheet = x.sheet ++ drop n.sheet sheet;
      pcm = x.pcm ++ drop n.pcm pcm;
      readings = x.readings ++ drop n.readings readings;
    }

abbrev pub rework_in : Room → ℕ → Dsp → List ℕ → List ℕ → List ℕ → List ℕ → List ℕ → List ℕ → Left
rework_in n s end ram log₁ log₂ pcm sheet readings =
    with_the_rest n pcm sheet readings (rework_of s new_dsp end ram log₁ log₂ (take n.pcm pcm) (take n.sheet sheet) (take n.readings readings))

-- s: the named voices; end: the record at the old log's end
unfoldable pub rework_cut : ℕ → Dsp → List ℕ → List ℕ → List ℕ → List ℕ → List ℕ → List ℕ → Left
rework_cut s end ram log₁ log₂ pcm sheet readings =
    rework_in (room_in (measure_of log₂).ticks (measure_of log₂).readings pcm sheet readings) s end ram log₁ log₂ pcm sheet readings

-- ---- both sittings

-- the refusal, and whether it is the first run's; the set of voices that were worked, and their number; then the lent slices
pub record Both : Type 0 where
  pub refusal : ℕ
  pub of_old : Bool
  pub members : ℕ
  pub count : ℕ
  pub own : List ℕ
  pub pcm : List ℕ
  pub sheet : List ℕ
  pub before : List ℕ
  pub after : List ℕ

-- an answer, the set and its number or why there is none, with what it leaves in the lent slices, in these words
abbrev pub both : Result (ℕ × ℕ) Unworked → List ℕ → List ℕ → List ℕ → List ℕ → List ℕ → Both
both (Ok w) own pcm sheet before after =
    record { refusal = 0; of_old = false; members = w.0; count = w.1; own = own; pcm = pcm; sheet = sheet; before = before; after = after }
both (Err (Old r)) own pcm sheet before after =
    record { refusal = number r; of_old = true; members = 0; count = 0; own = own; pcm = pcm; sheet = sheet; before = before; after = after }
both (Err (New r)) own pcm sheet before after =
    record { refusal = number r; of_old = false; members = 0; count = 0; own = own; pcm = pcm; sheet = sheet; before = before; after = after }

abbrev pub unplayed : Outcome → List ℕ → Both
unplayed o after =
    record {
      refusal = o.refusal;
      of_old = true;
      members = 0;
      count = 0;
      own = o.ram;
      pcm = o.pcm;
      sheet = o.sheet;
      before = o.readings;
      after = after;
    }

abbrev pub both_worked : Outcome → Left → Both
both_worked o x =
    record {
      refusal = x.refusal;
      of_old = false;
      members = x.members;
      count = x.count;
      own = o.ram;
      pcm = x.pcm;
      sheet = x.sheet;
      before = o.readings;
      after = x.readings;
    }

abbrev pub both_from : ℕ → List ℕ → List ℕ → List ℕ → List ℕ → Outcome → Both
both_from s ram log₁ log₂ after o =
    if o.refusal =? 0 then both_worked o (rework_cut s o.dsp ram log₁ log₂ o.pcm o.sheet after) else
    unplayed o after

-- the first run has a RAM of its own
unfoldable pub both_of : ℕ → List ℕ → List ℕ → List ℕ → List ℕ → List ℕ → List ℕ → List ℕ → List ℕ → Both
both_of s ram own log₁ log₂ pcm sheet before after = both_from s ram log₁ log₂ after (run_cut new_dsp own log₁ pcm sheet before)

-- ---- their readings, as many as the new log has

-- how many there are, how many are as before, how many of the others are listed; then the lent slices
pub record Judged : Type 0 where
  pub readings : ℕ
  pub same : ℕ
  pub listed : ℕ
  pub verdict : Verdict
  pub registers : List ℕ
  pub numbers : List ℕ

abbrev pub judge_first : ℕ → List ℕ → List ℕ → List ℕ → List ℕ → List ℕ → Judged
judge_first n read before after registers numbers =
    record {
      readings = n;
      same = same (take n before) (take n after);
      listed = least (length (changed (take n before) (take n after))) (length numbers);
      verdict = verdict_of (take n before) (take n after);
      registers = copied read registers;
      numbers = copied (changed (take n before) (take n after)) numbers;
    }

unfoldable pub judge_of : List ℕ → List ℕ → List ℕ → List ℕ → List ℕ → Judged
judge_of log before after registers numbers =
    judge_first (least (length (registers_in log)) (length registers)) (registers_in log) before after registers numbers

-- ---- the answer

pub record Answer : Type 0 where
  pub both : Both
  pub judged : Judged

abbrev pub judging : List ℕ → List ℕ → List ℕ → Both → Answer
judging log registers numbers x = record { both = x; judged = judge_of log x.before x.after registers numbers }

unfoldable pub answer_of : ℕ → List ℕ → List ℕ → List ℕ → List ℕ → List ℕ → List ℕ → List ℕ → List ℕ → List ℕ → List ℕ → Answer
answer_of s ram own log₁ log₂ pcm sheet before after registers numbers =
    judging log₂ registers numbers (both_of s ram own log₁ log₂ pcm sheet before after)
