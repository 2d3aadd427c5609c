-- Runs that are lent exactly as much as a log needs, what they leave, and the registers that a log reads.
use Rattle.std.specs.Prelude.{ℕ, ◌*◌, Bool, Option, Some, None, Result, Ok, Err, List, [], ◌∷◌, ◌++◌, length, take, drop, replicate, if◌then◌else◌}
use Rattle.numbers.specs.Unsigned.{least}
use Rattle.dsp.specs.PowerOn.{new_dsp}
use Rattle.dsp.specs.declared.registers.Dsp.{Dsp}
use Rattle.chip_log.specs.Log.{decode}
use Rattle.chip_log.specs.Measure.{measure_of}
use Rattle.chip_log.specs.declared.Record.{Record}
use Rattle.chip_log.specs.declared.Record.TheVariants.{Write, Ticks, Reading}
use Rattle.refusal.specs.declared.Refused.{Refused}
use Rattle.dsp.specs.declared.run.Ran.{Ran}
use Rattle.dsp.specs.Run.{Outcome, run_of}
use Rattle.report.specs.Digest.{empty, digest_of, left_by}
use Rattle.report.specs.declared.left.Left.{Left}
use Rattle.report.specs.declared.runs.Room.{Room}

-- ---- room

-- "PCM 4, sheet 36 bytes a tick, one byte a reading"
abbrev pub room_for : ℕ → ℕ → Room
room_for ticks readings = record { pcm = ticks * 4; sheet = ticks * 36; readings = readings }

-- no more than there is
abbrev pub room_within : Room → ℕ → ℕ → ℕ → Room
room_within n pcm sheet readings = record { pcm = least n.pcm pcm; sheet = least n.sheet sheet; readings = least n.readings readings }

-- so many ticks and readings, of these slices
abbrev pub room_in : ℕ → ℕ → List ℕ → List ℕ → List ℕ → Room
room_in ticks count pcm sheet readings = room_within (room_for ticks count) (length pcm) (length sheet) (length readings)

-- ---- a run that is lent the first bytes of each slice, as many as its log needs

-- from the record, or from `new` where none is given
abbrev pub start_from : Option Dsp → Dsp
start_from (Some start) = start
start_from None = new_dsp

-- "A refusal answers .. the record given .. and zeros elsewhere"
abbrev pub ran_by : Result Ran (Refused Dsp) → Ran
ran_by (Ok r) = r
ran_by (Err e) = record { dsp = e.given; ticks = 0; readings = 0 }

-- what stands behind them stays
abbrev pub with_rest : Room → List ℕ → List ℕ → List ℕ → Outcome → Outcome
with_rest n pcm sheet readings o =
    record {
      refusal = o.refusal;
      dsp = o.dsp;
      ticks = o.ticks;
      count = o.count;
      ram = o.ram;
      pcm = o.pcm ++ drop n.pcm pcm;
      sheet = o.sheet ++ drop n.sheet sheet;
      readings = o.readings ++ drop n.readings readings;
    }

abbrev pub run_in : Room → Dsp → List ℕ → List ℕ → List ℕ → List ℕ → List ℕ → Outcome
run_in n d ram log pcm sheet readings =
    with_rest n pcm sheet readings (run_of d ram log (take n.pcm pcm) (take n.sheet sheet) (take n.readings readings))

unfoldable pub run_cut : Dsp → List ℕ → List ℕ → List ℕ → List ℕ → List ℕ → Outcome
run_cut d ram log pcm sheet readings = run_in (room_in (measure_of log).ticks (measure_of log).readings pcm sheet readings) d ram log pcm sheet readings

-- ---- what a run leaves, in digests

-- of the slices as much as a run of so many ticks and readings has filled
abbrev pub left_in : Room → Dsp → List ℕ → List ℕ → List ℕ → Left
left_in n d ram pcm readings = left_by d ram (digest_of (take n.pcm pcm)) (digest_of (take n.readings readings))

unfoldable pub left_of : Dsp → ℕ → ℕ → List ℕ → List ℕ → List ℕ → List ℕ → Left
left_of d ticks count ram pcm sheet readings = left_in (room_in ticks count pcm sheet readings) d ram pcm readings

-- the answer of a whole run, and RAM
pub record Through : Type 0 where
  pub refusal : ℕ
  pub dsp : Dsp
  pub left : Left
  pub ram : List ℕ

-- samples and readings are told or not
abbrev pub through : Bool → Outcome → Through
through told o =
    record {
      refusal = o.refusal;
      dsp = o.dsp;
      left =
          if told then left_of o.dsp o.ticks o.count o.ram o.pcm o.sheet o.readings else
          left_by o.dsp o.ram empty empty;
      ram = o.ram;
    }

-- "32,000 ticks", and a reading has 3 bytes of the log's 60,000
unfoldable pub whole_of : Bool → Dsp → List ℕ → List ℕ → Through
whole_of told d ram log = through told (run_cut d ram log (replicate 128000 0) (replicate 1152000 0) (replicate 20000 0))

-- ---- the registers of the readings, in their order

unfoldable pub registers_of : List Record → List ℕ
registers_of [] = []
registers_of (Write r x ∷ rs) = registers_of rs
registers_of (Ticks n ∷ rs) = registers_of rs
registers_of (Reading r ∷ rs) = r ∷ registers_of rs

abbrev pub registers_in : List ℕ → List ℕ
registers_in log = registers_of (decode log).records
