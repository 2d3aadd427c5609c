-- A run in parts: each works one record of the log, or some ticks of a TK record.
use Rattle.std.specs.Prelude.{List, [], ◌∷◌, ◌++◌, ◌≡◌, ℕ, ◌-◌, ◌*◌, ◌/◌, ◌≤◌, ◌<◌, length, get_or, take, drop, Result, Ok, Err, if◌then◌else◌}
use Rattle.numbers.specs.Choice.{◌<?◌, ◌=?◌}
use Rattle.numbers.specs.Unsigned.{least}
use Rattle.dsp.specs.Machine.{together}
use Rattle.dsp.specs.Fit.{fit}
use Rattle.dsp.specs.Registers.{write_at}
use Rattle.dsp.specs.Tick.{everything}
use Rattle.dsp.specs.Ticks.{Bench, bench_of, ticks_of}
use Rattle.dsp.specs.declared.registers.Dsp.{Dsp}
use Rattle.chip_log.specs.Log.{read_at, records_from}
use Rattle.chip_log.specs.Measure.{measure_of}
use Rattle.chip_log.specs.declared.Record.{Record}
use Rattle.chip_log.specs.declared.Record.TheVariants.{Write, Ticks, Reading}
use Rattle.chip_log.specs.Log.{Next}
use Rattle.chip_log.specs.Log.{On, Off}
use Rattle.dsp.specs.Play.{Run, play_all, starting}
use Rattle.dsp.specs.Run.{run_of}
use Rattle.sitting.specs.declared.parts.Heard.{Heard}
use Rattle.sitting.specs.declared.parts.Heard.TheVariants.{Nothing, Sound, Reading as Read, End}
use Rattle.sitting.specs.declared.parts.Part.{Part}
use Rattle.sitting.specs.declared.parts.Stage.{Stage}
use Rattle.refusal.specs.Refusal.{number}
use Rattle.refusal.specs.declared.Refused.{Refused}

-- a part's answer: where the run then stands (the record, the place in the log, the ticks still to come), and what it put out
pub record Told : Type 0 where
  pub refusal : ℕ
  pub dsp : Dsp
  pub at : ℕ
  pub left : ℕ
  pub heard : Heard

pub record Parted : Type 0 where
  pub told : Told
  pub ram : List ℕ
  pub pcm : List ℕ

abbrev pub telling : Dsp → ℕ → ℕ → Heard → Told
telling d at left heard = record { refusal = 0; dsp = d; at = at; left = left; heard = heard }

abbrev pub untold : ℕ → Dsp → ℕ → ℕ → Told
untold k d at left = record { refusal = k; dsp = d; at = at; left = left; heard = Nothing }

-- an answer of a part, in these words
abbrev pub told_by : Result Part (Refused Stage) → Told
told_by (Ok p) = telling p.stage.dsp p.stage.at p.stage.left p.heard
told_by (Err e) = untold (number e.refusal) e.given.dsp e.given.at e.given.left

-- a refused part leaves all as it was
abbrev pub unparted : ℕ → Dsp → ℕ → ℕ → List ℕ → List ℕ → Parted
unparted k d at left ram pcm = record { told = untold k d at left; ram = ram; pcm = pcm }

-- ---- at a record

-- no record: the end, or a refusal
unfoldable pub stop_at : ℕ → Dsp → ℕ → Told
stop_at k d at =
    if k =? 0 then telling d at 0 End else
    untold k d at 0

unfoldable pub record_at : Record → ℕ → Dsp → Told
record_at (Write r x) behind d = telling (write_at r x d) behind 0 Nothing
record_at (Ticks n) behind d = telling d behind n Nothing
record_at (Reading r) behind d = telling d behind 0 (Read r (get_or d.registers r 0))

unfoldable pub next_at : Next → Dsp → ℕ → Told
next_at (Off k) d at = stop_at k d at
next_at (On r behind) d at = record_at r behind d

-- ---- within a TK record

-- as many ticks as are left, as the buffer holds, and at most 64
unfoldable pub ticks_now : ℕ → ℕ → ℕ
ticks_now left room = least (room / 4) (least left 64)

abbrev pub sounding_from : ℕ → ℕ → ℕ → List ℕ → Bench → Parted
sounding_from n at left pcm b =
    record { told = telling (together b.parts) at (left - n) (Sound n); ram = b.ram; pcm = b.pcm ++ drop (n * 4) pcm }

unfoldable pub sounding : ℕ → Dsp → ℕ → ℕ → List ℕ → List ℕ → Parted
sounding n d at left ram pcm = sounding_from n at left pcm (ticks_of everything n (bench_of d ram []))

-- ---- a part

-- the log's refusal: at place 0, where a run begins, the whole log's ("the whole log is checked before the first tick"). A stage behind
-- it comes of a log that was checked; of another that is handed in the length is looked at, and then what stands at the place
unfoldable pub log_refusal : ℕ → List ℕ → ℕ
log_refusal at log =
    if at =? 0 then (measure_of log).refusal else
    if 60000 <? length log then 3 else
    0

-- 1, 2, then the log's; with no ticks left 4 to 9 of what stands at the place, else 10 for a buffer without room for a tick
unfoldable pub part_of : Dsp → ℕ → ℕ → List ℕ → List ℕ → List ℕ → Parted
part_of d at left ram log pcm =
    if length ram =? 0x10000 then
    (if fit d then
    (if log_refusal at log =? 0 then
    (if left =? 0 then record { told = next_at (read_at log at) d at; ram = ram; pcm = pcm } else
    if length pcm <? 4 then unparted 10 d at left ram pcm else
    sounding (ticks_now left (length pcm)) d at left ram pcm)
    else unparted (log_refusal at log) d at left ram pcm)
    else unparted 2 d at left ram pcm)
    else unparted 1 d at left ram pcm

-- ---- that parts come to an end

-- a record moves the place on, within the log; ticks leave fewer to come
abbrev pub Moved : ℕ → ℕ → ℕ → Heard → ℕ → ℕ → ℕ → Type 0
Moved at left size Nothing k at' left' = k ≡ 0 → (at < at') × (at' ≤ size)
Moved at left size (Sound n) k at' left' = (at' ≡ at) × (left' < left)
Moved at left size (Read r x) k at' left' = (at < at') × (at' ≤ size)
Moved at left size End k at' left' = Unit {0}

abbrev pub Goes : ℕ → ℕ → ℕ → Told → Type 0
Goes at left size t = Moved at left size t.heard t.refusal t.at t.left

-- ---- what parts give together

-- what is still to be put out from a stage on: samples, readings, and the record and RAM at the end
pub record Rest : Type 0 where
  pub pcm : List ℕ
  pub readings : List ℕ
  pub dsp : Dsp
  pub ram : List ℕ

abbrev pub rest_in : Run → Rest
rest_in x = record { pcm = x.bench.pcm; readings = x.readings; dsp = together x.bench.parts; ram = x.bench.ram }

-- the ticks that are left, then the records from the place on, played
unfoldable pub rest_of : Dsp → ℕ → ℕ → List ℕ → List ℕ → Rest
rest_of d at left ram log = rest_in (play_all everything (Ticks left ∷ records_from log at) (starting d ram []))

-- with what a part puts out in front
abbrev pub ahead : Heard → List ℕ → Rest → Rest
ahead Nothing pcm r = r
ahead (Sound n) pcm r = record { pcm = take (n * 4) pcm ++ r.pcm; readings = r.readings; dsp = r.dsp; ram = r.ram }
ahead (Read g x) pcm r = record { pcm = r.pcm; readings = x ∷ r.readings; dsp = r.dsp; ram = r.ram }
ahead End pcm r = r

-- after a part that is not refused, what is left is what was left before, less what the part put out
abbrev pub PartAfterPart : Type 0
PartAfterPart =
    (d : Dsp) (at left : ℕ) (ram log pcm : List ℕ) → (part_of d at left ram log pcm).told.refusal ≡ 0
    → rest_of d at left ram log
    ≡ ahead (part_of d at left ram log pcm).told.heard (part_of d at left ram log pcm).pcm
    (rest_of (part_of d at left ram log pcm).told.dsp (part_of d at left ram log pcm).told.at (part_of d at left ram log pcm).told.left (part_of d at left ram log pcm).ram log)

-- before the first part all of the run is left
abbrev pub PartsBegin : Type 0
PartsBegin =
    (d : Dsp) (ram log pcm sheet readings : List ℕ) → (run_of d ram log pcm sheet readings).refusal ≡ 0
    → ◌≡◌ {A = Rest} (rest_of d 0 0 ram log)
    (record {
      pcm = (run_of d ram log pcm sheet readings).pcm;
      readings = (run_of d ram log pcm sheet readings).readings;
      dsp = (run_of d ram log pcm sheet readings).dsp;
      ram = (run_of d ram log pcm sheet readings).ram;
    })

-- and at the end nothing is, but the record and RAM as they stand
abbrev pub PartsEnd : Type 0
PartsEnd =
    (d : Dsp) (at left : ℕ) (ram log pcm : List ℕ) → (part_of d at left ram log pcm).told.heard ≡ End
    → rest_of d at left ram log ≡ record { pcm = []; readings = []; dsp = d; ram = ram }

-- ---- that a stage is one of a checked log

-- what the types say: the arrays of a record have their lengths, and a log is bytes
abbrev pub Typed : Dsp → List ℕ → Type 0
Typed d log = (length d.registers ≡ 128) × (length d.voices ≡ 8) × (length d.kon_delay ≡ 8) × ((i : ℕ) → get_or log i 0 < 256)

-- what parts leave, each over a buffer of its own, after a part that left p
unfoldable pub further_parts : Parted → List ℕ → List (List ℕ) → Parted
further_parts p log [] = p
further_parts p log (pcm ∷ pcms) = further_parts (part_of p.told.dsp p.told.at p.told.left p.ram log pcm) log pcms

-- buffers with room for a sample
abbrev pub Roomy : List (List ℕ) → Type 0
Roomy [] = Unit {0}
Roomy (pcm ∷ pcms) = (4 ≤ length pcm) × Roomy pcms

-- a first part that is not refused is of a log that is refused by nothing, and then no part after it is refused
abbrev pub PartsChecked : Type 0
PartsChecked =
    (d : Dsp) (ram log pcm : List ℕ) → Typed d log → (part_of d 0 0 ram log pcm).told.refusal ≡ 0
    → ((measure_of log).refusal ≡ 0)
    × ((pcms : List (List ℕ)) → Roomy pcms → (further_parts (part_of d 0 0 ram log pcm) log pcms).told.refusal ≡ 0)
