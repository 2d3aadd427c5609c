-- Document 01's table of refusals: its conditions, named as it names them, and the first that applies.
use Rattle.std.specs.Prelude.{Bool, not, ◌&&◌, ◌||◌, List, [], ◌∷◌, ℕ, zero, suc, ◌+◌, ◌*◌, length, if◌then◌else◌}
use Rattle.numbers.specs.Choice.{◌≤?◌, ◌<?◌, ◌=?◌}
use Rattle.dsp.specs.Fit.{fit}
use Rattle.dsp.specs.declared.registers.Dsp.{Dsp}
use Rattle.chip_log.specs.Log.{byte_in}

-- ---- the first that applies

-- the number of a condition where it holds, else 0
infix 4 ◌when◌
abbrev pub ◌when◌ : ℕ → Bool → ℕ
number when holds =
    if holds then number else
    0

-- of such numbers in their order the first that is not 0; 0 where none is
unfoldable pub first_of : List ℕ → ℕ
first_of [] = 0
first_of (number ∷ rest) =
    if number =? 0 then first_of rest else
    number

-- ---- 1, 2, 3

-- "RAM slice isn't 65,536 bytes"
abbrev pub ram_is_not_whole : List ℕ → Bool
ram_is_not_whole ram = not (length ram =? 0x10000)

-- "a given record is unfit"
abbrev pub is_unfit : Dsp → Bool
is_unfit d = not (fit d)

-- "log over 60,000 bytes"
abbrev pub is_too_long : List ℕ → Bool
is_too_long log = 60000 <? length log

-- "a lent output or sheet isn't exactly as long as the log needs"
abbrev pub is_not_as_long : List ℕ → ℕ → Bool
is_not_as_long lent needed = not (length lent =? needed)

-- ---- 4 to 9: what is wrong with a log

-- the mark at a place, its first byte as the high one
abbrev pub mark_at : List ℕ → ℕ → ℕ
mark_at log at = byte_in log (at + 1) + 0x100 * byte_in log at

abbrev pub RW : ℕ
RW = 0x5257

abbrev pub TK : ℕ
TK = 0x544B

abbrev pub QA : ℕ
QA = 0x5141

abbrev pub ND : ℕ
ND = 0x4E44

abbrev pub is_known : ℕ → Bool
is_known mark = (mark =? RW) || (mark =? TK) || (mark =? QA) || (mark =? ND)

-- how many bytes a record has, with its mark
abbrev pub size_of : ℕ → ℕ
size_of mark =
    if (mark =? RW) || (mark =? TK) then 4 else
    if mark =? QA then 3 else
    2

-- the count of a TK record: 16 bits, low byte first
abbrev pub count_at : List ℕ → ℕ → ℕ
count_at log at = byte_in log (at + 2) + 0x100 * byte_in log (at + 3)

abbrev pub register_above_7f : List ℕ → ℕ → ℕ → Bool
register_above_7f log at mark = ((mark =? RW) || (mark =? QA)) && (0x7F <? byte_in log (at + 2))

-- t: the ticks of the records before
abbrev pub ticks_out_of_range : List ℕ → ℕ → ℕ → ℕ → Bool
ticks_out_of_range log at t mark = (mark =? TK) && ((count_at log at =? 0) || (32000 <? t + count_at log at))

abbrev pub bytes_behind_the_end : List ℕ → ℕ → ℕ → Bool
bytes_behind_the_end log at mark = (mark =? ND) && not (length log =? at + 2)

-- "at one record: 5 for a lone byte, 4, 5, then 6 or 7"; 8 where the log has stopped, 9 at the end record
abbrev pub fault_by : List ℕ → ℕ → ℕ → ℕ → ℕ
fault_by log at t mark =
    first_of
    ((8 when (length log ≤? at))
    ∷ (5 when (length log <? at + 2))
    ∷ (4 when not (is_known mark))
    ∷ (5 when (length log <? at + size_of mark))
    ∷ (6 when register_above_7f log at mark)
    ∷ (7 when ticks_out_of_range log at t mark)
    ∷ (9 when bytes_behind_the_end log at mark)
    ∷ [])

abbrev pub fault_at : List ℕ → ℕ → ℕ → ℕ
fault_at log at t = fault_by log at t (mark_at log at)

-- the ticks of the record at a place
abbrev pub ticks_by : List ℕ → ℕ → ℕ → ℕ
ticks_by log at mark =
    if mark =? TK then count_at log at else
    0

-- "4 to 9 at the first place in the log": at the record here, else at those behind it up to the end record. The first number bounds how
-- many records there are
unfoldable pub fault_from : ℕ → List ℕ → ℕ → ℕ → ℕ
fault_from zero log at t = 8
fault_from (suc f) log at t =
    first_of
    (fault_at log at t
    ∷ (if mark_at log at =? ND then 0 else fault_from f log (at + size_of (mark_at log at)) (t + ticks_by log at (mark_at log at)))
    ∷ [])

-- a record has a byte at least, so that the bound is never met
abbrev pub fault_of : List ℕ → ℕ
fault_of log = fault_from (length log + 1) log 0 0
