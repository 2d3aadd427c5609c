-- The demands, as statements about the definitions that the contracts cite: `write_of`, `step_of`, `render_of`, `drive_of`, `measure_of`, `run_with`,
-- `run_of`, `part_of`, `rework_of`, `rework_new_of`. (That no call traps or runs on is what the proof of any function says. That the definitions are the
-- given Rust's is compared, not proved.) Demand 1: `demand1`; demand 2: `demand2`; demand 3: `demand3`, `demand3_new`, in proofs/.
use Rattle.std.specs.Prelude.{true, not, ◌&&◌, List, [], ◌∷◌, ◌++◌, ◌≢◌, ◌≡◌, ℕ, zero, suc, ◌*◌, ◌<◌, pos, get_or, length, drop, if◌then◌else◌}
use Rattle.numbers.specs.Choice.{◌<?◌, ◌=?◌}
use Rattle.dsp.specs.Machine.{apart}
use Rattle.dsp.specs.PowerOn.{new_dsp}
use Rattle.dsp.specs.Registers.{Written, write_of}
use Rattle.dsp.specs.Mix.{Rendered, render_of}
use Rattle.dsp.specs.Sheet.{pair_bytes, lane_at}
use Rattle.dsp.specs.Ticks.{After, refused, step_of, Drove, undriven, drive_of}
use Rattle.dsp.specs.declared.registers.Dsp.{Dsp}
use Rattle.dsp.specs.declared.tick.Work.{Work}
use Rattle.chip_log.specs.Log.{read_at, decode}
use Rattle.chip_log.specs.Measure.{measure_of, unmeasured}
use Rattle.chip_log.specs.declared.Record.{Record}
use Rattle.chip_log.specs.declared.Record.TheVariants.{Write, Ticks, Reading}
use Rattle.chip_log.specs.Measure.{Measured}
use Rattle.chip_log.specs.Log.{Next}
use Rattle.chip_log.specs.Log.{On, Off}
use Rattle.dsp.specs.Run.{Outcome, unrun, run_with, run_of}
use Rattle.sitting.specs.Parts.{Parted, unparted, part_of}
use Rattle.rework.specs.Refusals.{◌when◌, first_of, ram_is_not_whole, is_unfit, is_too_long, is_not_as_long, fault_of}
use Rattle.rework.specs.Alike.{without, alike}
use Rattle.rework.specs.Members.{modes_of, quiet, voices_in}
use Rattle.rework.specs.Differ.{Outside, SameBut, Value}
use Rattle.rework.specs.Rework.{set_of, Left, unreworked, rework_of, rework_new_of}

-- ---- what the types say: a record of the language, and bytes

abbrev pub IsRecord : Dsp → Type 0
IsRecord d = Value (apart d)

abbrev pub Bytes : List ℕ → Type 0
Bytes log = (i : ℕ) → get_or log i 0 < 256

-- ---- 1: each entry refuses by document 01's table, and hands back what it got

-- the refusal is the first of the entry's conditions that applies, 0 where none does; and a refused call leaves just this
abbrev pub Exactly : {A : Type 0} → (A → ℕ) → A → List ℕ → (ℕ → A) → Type 0
Exactly refusal answer conditions left = (refusal answer ≡ first_of conditions) × (refusal answer ≢ 0 → answer ≡ left (refusal answer))

-- "PCM 4, sheet 36 bytes a tick, one byte a reading"
abbrev pub other_lengths : ℕ → ℕ → List ℕ → List ℕ → List ℕ → List ℕ
other_lengths ticks readings pcm sheet told =
    (10 when is_not_as_long pcm (ticks * 4)) ∷ (10 when is_not_as_long sheet (ticks * 36)) ∷ (10 when is_not_as_long told readings) ∷ []

abbrev pub of_room : List ℕ → List ℕ → List ℕ → List ℕ → List ℕ
of_room log pcm sheet readings = other_lengths (measure_of log).ticks (measure_of log).readings pcm sheet readings

-- "Order: 1, 2, 3, then 4 to 9 at the first place in the log, then 12, 11, 10"
abbrev pub of_run : Dsp → List ℕ → List ℕ → List ℕ → List ℕ → List ℕ → List ℕ
of_run d ram log pcm sheet readings =
    (1 when ram_is_not_whole ram) ∷ (2 when is_unfit d) ∷ (3 when is_too_long log) ∷ fault_of log ∷ of_room log pcm sheet readings

-- how the log stops at a place: 0 by a record or the end record
abbrev pub stop_in : Next → ℕ
stop_in (On r behind) = 0
stop_in (Off k) = k

-- a part: the whole log at its front; what stands at the place, or the room for a tick
abbrev pub of_part : Dsp → ℕ → ℕ → List ℕ → List ℕ → List ℕ → List ℕ
of_part d at left ram log pcm =
    (1 when ram_is_not_whole ram)
    ∷ (2 when is_unfit d)
    ∷ (3 when is_too_long log)
    ∷ (if at =? 0 then fault_of log else 0)
    ∷ (if left =? 0 then stop_in (read_at log at) else 0)
    ∷ (10 when not (left =? 0) && (length pcm <? 4))
    ∷ []

-- both logs, "the old log fully before the new", then how they are to each other
abbrev pub of_logs : ℕ → Dsp → List ℕ → List ℕ → List ℕ → List ℕ → List ℕ → List ℕ
of_logs s start log₁ log₂ pcm sheet readings =
    (3 when is_too_long log₁)
    ∷ fault_of log₁
    ∷ (3 when is_too_long log₂)
    ∷ fault_of log₂
    ∷ (12 when not (alike s (decode log₁).records (decode log₂).records))
    ∷ (11 when not (quiet (decode log₂).records (modes_of start)))
    ∷ of_room log₂ pcm sheet readings

-- "Rework checks the start record before the old end record"
abbrev pub of_rework : ℕ → Dsp → Dsp → List ℕ → List ℕ → List ℕ → List ℕ → List ℕ → List ℕ → List ℕ
of_rework s start end ram log₁ log₂ pcm sheet readings =
    (1 when ram_is_not_whole ram) ∷ (2 when is_unfit start) ∷ (2 when is_unfit end) ∷ of_logs s start log₁ log₂ pcm sheet readings

-- what the entries give: `run` here is `play_log` of the chip and `run_with` above it; the entry `run` is that with every lane, `run_new` that from `new`
pub record Chip : Type 0 where
  pub write : ℕ → ℕ → Dsp → Written
  pub render : Dsp → Rendered
  pub step : Dsp → List ℕ → After
  pub ticks : Work → ℕ → Dsp → List ℕ → List ℕ → List ℕ → Drove
  pub measure : List ℕ → Measured
  pub run : Work → Dsp → List ℕ → List ℕ → List ℕ → List ℕ → List ℕ → Outcome
  pub part : Dsp → ℕ → ℕ → List ℕ → List ℕ → List ℕ → Parted
  pub rework : ℕ → Dsp → Dsp → List ℕ → List ℕ → List ℕ → List ℕ → List ℕ → List ℕ → Left
  pub rework_new : ℕ → List ℕ → List ℕ → List ℕ → List ℕ → List ℕ → List ℕ → Left

-- ours: the definitions that the contracts cite
abbrev pub ours : Chip
ours =
    record {
      write = write_of;
      render = render_of;
      step = step_of;
      ticks = drive_of;
      measure = measure_of;
      run = run_with;
      part = part_of;
      rework = rework_of;
      rework_new = rework_new_of;
    }

-- "a refusal answers its number, the record given (in rework the new start record; `new` where none is given) and zeros elsewhere; RAM,
-- sheet and outputs keep their bytes".
pub record RefusesByTheTable (chip : Chip) : Type 0 where
  pub write : (index x : ℕ) (d : Dsp) → Exactly (λ a. a.refusal) (chip.write index x d) ((2 when is_unfit d) ∷ []) (λ k. record { refusal = k; dsp = d })
  pub render : (d : Dsp) → Exactly (λ a. a.refusal) (chip.render d) ((2 when is_unfit d) ∷ []) (λ k. record { refusal = k; left = pos 0; right = pos 0 })
  pub step : (d : Dsp) (ram : List ℕ)
      → Exactly (λ a. a.refusal) (chip.step d ram) ((1 when ram_is_not_whole ram) ∷ (2 when is_unfit d) ∷ []) (λ k. refused k d ram)
  pub ticks : (w : Work) (n : ℕ) (d : Dsp) (ram pcm sheet : List ℕ)
      → Exactly (λ a. a.refusal) (chip.ticks w n d ram pcm sheet)
      ((1 when ram_is_not_whole ram) ∷ (2 when is_unfit d) ∷ (10 when is_not_as_long pcm (n * 4)) ∷ (10 when is_not_as_long sheet (n * 36)) ∷ [])
      (λ k. undriven k d ram pcm sheet)
  pub measure : (log : List ℕ) → Exactly (λ a. a.refusal) (chip.measure log) ((3 when is_too_long log) ∷ fault_of log ∷ []) unmeasured
  pub run : (w : Work) (d : Dsp) (ram log pcm sheet readings : List ℕ)
      → Exactly (λ a. a.refusal) (chip.run w d ram log pcm sheet readings) (of_run d ram log pcm sheet readings) (λ k. unrun k d ram pcm sheet readings)
  pub part : (d : Dsp) (at left : ℕ) (ram log pcm : List ℕ)
      → Exactly (λ a. a.told.refusal) (chip.part d at left ram log pcm) (of_part d at left ram log pcm) (λ k. unparted k d at left ram pcm)
  pub rework : (s : ℕ) (start end : Dsp) (ram log₁ log₂ pcm sheet readings : List ℕ)
      → Exactly (λ a. a.refusal) (chip.rework s start end ram log₁ log₂ pcm sheet readings) (of_rework s start end ram log₁ log₂ pcm sheet readings)
      (λ k. unreworked k start pcm sheet readings)
  pub rework_new : (s : ℕ) (ram log₁ log₂ pcm sheet readings : List ℕ) → Bytes log₁ → Bytes log₂
      → Exactly (λ a. a.refusal) (chip.rework_new s ram log₁ log₂ pcm sheet readings)
      ((1 when ram_is_not_whole ram) ∷ of_logs s new_dsp log₁ log₂ pcm sheet readings)
      (λ k. unreworked k new_dsp pcm sheet readings)

abbrev pub Demand1 : Type 0
Demand1 = RefusesByTheTable ours

-- ---- 2: from any fit record a run is the public entries one after another

pub record Played : Type 0 where
  pub dsp : Dsp
  pub ram : List ℕ
  pub pcm : List ℕ
  pub readings : List ℕ

abbrev pub after_tick : Played → After → Played
after_tick p a =
    record { dsp = a.dsp; ram = a.ram; pcm = p.pcm ++ pair_bytes (render_of a.dsp).left (render_of a.dsp).right; readings = p.readings }

-- "a tick is `step`, then `render_audio_single`"
unfoldable pub tick_by : ℕ → Played → Played
tick_by zero p = p
tick_by (suc n) p = after_tick (tick_by n p) (step_of (tick_by n p).dsp (tick_by n p).ram)

-- RW is `write_reg`, QA is `read_reg`
abbrev pub record_by : Record → Played → Played
record_by (Write r x) p = record { dsp = (write_of r x p.dsp).dsp; ram = p.ram; pcm = p.pcm; readings = p.readings }
record_by (Ticks n) p = tick_by n p
record_by (Reading r) p = record { dsp = p.dsp; ram = p.ram; pcm = p.pcm; readings = p.readings ++ (get_or p.dsp.registers r 0 ∷ []) }

unfoldable pub log_by : List Record → Played → Played
log_by [] p = p
log_by (r ∷ rs) p = log_by rs (record_by r p)

abbrev pub played_in : Outcome → Played
played_in o = record { dsp = o.dsp; ram = o.ram; pcm = o.pcm; readings = o.readings }

abbrev pub Demand2 : Type 0
Demand2 =
    (d : Dsp) (ram log pcm sheet readings : List ℕ) → IsRecord d → Bytes log → (run_of d ram log pcm sheet readings).refusal ≡ 0
    → log_by (decode log).records (record { dsp = d; ram = ram; pcm = []; readings = [] }) ≡ played_in (run_of d ram log pcm sheet readings)

-- ---- 3

-- first, second: the two runs; x: the rework of the second from the first
pub record Reworks (s : ℕ) (start : Dsp) (log : List ℕ) (first second : Outcome) (x : Left) : Type 0 where
  pub refusal : x.refusal ≡ 0
  pub sheet : x.sheet ≡ second.sheet
  pub readings : x.readings ≡ second.readings
  pub samples : x.pcm ≡ second.pcm
  pub end : x.dsp ≡ second.dsp
  -- the set A and the number of voices in it
  pub members : x.members ≡ set_of s start log
  pub count : x.count ≡ voices_in (set_of s start log)
  -- "all other lanes of the sheet are the first run's own": tick t, lane j; lane 8 is the echo's
  pub others : (t j : ℕ) → j < 9 → (j < 8 → Outside (set_of s start log) j) → lane_at j (drop (t * 36) x.sheet) ≡ lane_at j (drop (t * 36) first.sheet)

-- "Take two runs whose start records differ only in named voices and whose logs differ only in writes to those voices' own registers
-- $j0 to $j7, with the same RAM and echo writing off at every tick." The rework may be lent any PCM and readings of the second run's lengths
abbrev pub Demand3 : Type 0
Demand3 =
    (s : ℕ) (d₁ d₂ : Dsp) (ram log₁ log₂ pcm₁ sheet₁ readings₁ pcm₂ sheet₂ readings₂ pcm readings : List ℕ)
    → IsRecord d₁ → IsRecord d₂ → Bytes log₁ → Bytes log₂
    → SameBut s (apart d₁) (apart d₂)
    → without s (decode log₁).records ≡ without s (decode log₂).records
    → quiet (decode log₁).records (modes_of d₁) ≡ true
    → (run_of d₁ ram log₁ pcm₁ sheet₁ readings₁).refusal ≡ 0
    → (run_of d₂ ram log₂ pcm₂ sheet₂ readings₂).refusal ≡ 0
    → length pcm ≡ length pcm₂ → length readings ≡ length readings₂
    → (let first = run_of d₁ ram log₁ pcm₁ sheet₁ readings₁ in
    Reworks s d₂ log₂ first (run_of d₂ ram log₂ pcm₂ sheet₂ readings₂) (rework_of s d₂ first.dsp ram log₁ log₂ pcm first.sheet readings))

-- the same of two sittings from `new`, the first of them run inside with what is lent
abbrev pub Demand3New : Type 0
Demand3New =
    (s : ℕ) (ram log₁ log₂ pcm sheet readings : List ℕ) → Bytes log₁ → Bytes log₂
    → (rework_new_of s ram log₁ log₂ pcm sheet readings).refusal ≡ 0
    → Reworks s new_dsp log₂ (run_of new_dsp ram log₁ pcm sheet readings) (run_of new_dsp ram log₂ pcm sheet readings) (rework_new_of s ram log₁ log₂ pcm sheet readings)
