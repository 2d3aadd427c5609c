-- What a caller must lend for a log, or the log's refusal.
use Rattle.std.specs.Prelude.{ℕ, ◌+◌, List, [], ◌∷◌, length, Result, Ok, Err, if◌then◌else◌}
use Rattle.numbers.specs.Choice.{◌<?◌, ◌=?◌}
use Rattle.chip_log.specs.Log.{Decoded, decode}
use Rattle.chip_log.specs.declared.Record.{Record}
use Rattle.chip_log.specs.declared.Record.TheVariants.{Write, Ticks, Reading}
use Rattle.chip_log.specs.declared.Measured.{Measured as Needed}
use Rattle.refusal.specs.Refusal.{number}
use Rattle.refusal.specs.declared.Refusal.{Refusal}

-- 0 or the log's refusal, and its ticks and readings: "Success answers 0. A refusal answers its number .. and zeros elsewhere"
pub record Measured : Type 0 where
  pub refusal : ℕ
  pub ticks : ℕ
  pub readings : ℕ

abbrev pub ticks_in : Record → ℕ
ticks_in (Write r v) = 0
ticks_in (Ticks k) = k
ticks_in (Reading r) = 0

abbrev pub readings_in : Record → ℕ
readings_in (Write r v) = 0
readings_in (Ticks k) = 0
readings_in (Reading r) = 1

abbrev pub unmeasured : ℕ → Measured
unmeasured k = record { refusal = k; ticks = 0; readings = 0 }

-- an answer of `measure`, in these words
abbrev pub measured_as : Result Needed Refusal → Measured
measured_as (Ok m) = record { refusal = 0; ticks = m.ticks; readings = m.readings }
measured_as (Err r) = unmeasured (number r)

-- at the end of the records
abbrev pub ended_at : ℕ → ℕ → ℕ → Measured
ended_at stop t q = if stop =? 0 then record { refusal = 0; ticks = t; readings = q } else unmeasured stop

-- the totals, from t ticks and q readings on; the record at which the ticks pass 32,000 is refused by 7
unfoldable pub total : List Record → ℕ → ℕ → ℕ → Measured
total [] stop t q = ended_at stop t q
total (r ∷ rs) stop t q = if 32000 <? t + ticks_in r then unmeasured 7 else total rs stop (t + ticks_in r) (q + readings_in r)

abbrev pub total_of : Decoded → ℕ → ℕ → Measured
total_of d t q = total d.records d.stop t q

-- "log over 60,000 bytes" is 3, before anything in it
unfoldable pub measure_of : List ℕ → Measured
unfolding total decode
measure_of log =
    if 60000 <? length log then unmeasured 3 else
    total_of (decode log) 0 0
