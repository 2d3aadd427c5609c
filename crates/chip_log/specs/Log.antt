-- What stands at a place of a log, and the log's records (document 01, "Log, sheet, program").
use Rattle.std.specs.Prelude.{ℕ, zero, suc, ◌+◌, ◌*◌, ◌≤◌, ◌<◌, List, [], ◌∷◌, length, get_or, Option, Some, None, Result, Ok, Err, if◌then◌else◌}
use Rattle.numbers.specs.Choice.{◌≤?◌, ◌<?◌, ◌=?◌}
use Rattle.chip_log.specs.declared.Record.{Record}
use Rattle.chip_log.specs.declared.Record.TheVariants.{Write, Ticks, Reading}
use Rattle.refusal.specs.Refusal.{number}
use Rattle.refusal.specs.declared.Refusal.{Refusal}

-- what stands at a place: on, with a record and the place behind it; or off, 0 at the end record, else the refusal's number
pub data Next : Type 0 where
  On : Record → ℕ → Next
  Off : ℕ → Next

-- an answer of the reader, in these words
abbrev pub next_of : Result (Option (Record × ℕ)) Refusal → Next
next_of (Ok (Some p)) = On p.0 p.1
next_of (Ok None) = Off 0
next_of (Err r) = Off (number r)

-- byte i of a log
abbrev pub byte_in : List ℕ → ℕ → ℕ
byte_in log i = get_or log i 0

-- "RW (52 57), register, value": 5 if it is not whole, 6 if the register is above $7F
unfoldable pub write_record : List ℕ → ℕ → Next
write_record log at =
    if length log <? at + 4 then Off 5 else
    if 0x7F <? byte_in log (at + 2) then Off 6 else
    On (Write (byte_in log (at + 2)) (byte_in log (at + 3))) (at + 4)

-- "TK (54 4B), count, 16 bits, low byte first": 7 if it is 0
unfoldable pub ticks_record : List ℕ → ℕ → Next
ticks_record log at =
    if length log <? at + 4 then Off 5 else
    if byte_in log (at + 2) + 0x100 * byte_in log (at + 3) =? 0 then Off 7 else
    On (Ticks (byte_in log (at + 2) + 0x100 * byte_in log (at + 3))) (at + 4)

-- "QA (51 41), register: one reading"
unfoldable pub reading_record : List ℕ → ℕ → Next
reading_record log at =
    if length log <? at + 3 then Off 5 else
    if 0x7F <? byte_in log (at + 2) then Off 6 else
    On (Reading (byte_in log (at + 2))) (at + 3)

-- by the mark, its first byte as the high one; "ND (4E 44): end", and 9 with bytes behind it; any other mark is 4
unfoldable pub by_mark : List ℕ → ℕ → ℕ → Next
unfolding write_record ticks_record reading_record
by_mark log at mark =
    if mark =? 0x5257 then write_record log at else
    if mark =? 0x544B then ticks_record log at else
    if mark =? 0x5141 then reading_record log at else
    if mark =? 0x4E44 then (if length log =? at + 2 then Off 0 else Off 9) else
    Off 4

-- at the log's end 8, at a lone byte 5
unfoldable pub read_at : List ℕ → ℕ → Next
unfolding by_mark
read_at log at =
    if length log ≤? at then Off 8 else
    if length log <? at + 2 then Off 5 else
    by_mark log at (byte_in log (at + 1) + 0x100 * byte_in log at)

-- a register of a record is one of the 128
abbrev pub Known : Record → Type 0
Known (Write r v) = r < 128
Known (Ticks k) = Unit {0}
Known (Reading r) = r < 128

-- a record ends past where it began, and within the log
abbrev pub Moves : ℕ → ℕ → Next → Type 0
Moves at size (On r behind) = (at < behind) × (behind ≤ size) × Known r
Moves at size (Off k) = Unit {0}

-- a log's records, and how they stop: 0 by the end record, else by the refusal at the first place at fault
pub record Decoded : Type 0 where
  pub records : List Record
  pub stop : ℕ

abbrev pub before : (ℕ → Decoded) → Next → Decoded
before go (On r behind) = record { records = r ∷ (go behind).records; stop = (go behind).stop }
before go (Off k) = record { records = []; stop = k }

-- from a place on; the first number bounds how many there are
unfoldable pub decode_from : ℕ → List ℕ → ℕ → Decoded
decode_from zero log at = record { records = []; stop = 8 }
decode_from (suc f) log at = before (decode_from f log) (read_at log at)

-- a record has a byte at least, so that the bound is never met
unfoldable pub decode : List ℕ → Decoded
unfolding decode_from
decode log = decode_from (length log + 1) log 0

-- the records from a place on
abbrev pub records_from : List ℕ → ℕ → List Record
records_from log at = (decode_from (length log + 1) log at).records
