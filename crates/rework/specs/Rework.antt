-- A rework: its refusals in their order, and what it leaves, for any old sheet (document 01, "Rework").
use Rattle.std.specs.Prelude.{Bool, false, not, ◌&&◌, List, ℕ, ◌/◌, ◌%◌, get_or, length, Result, Ok, Err, if◌then◌else◌}
use Rattle.numbers.specs.Choice.{◌<?◌, ◌=?◌}
use Rattle.numbers.specs.Bits.{bit, with_bit}
use Rattle.numbers.specs.Listed.{listed, turns}
use Rattle.dsp.specs.Machine.{no_voice, Parts, apart, together}
use Rattle.dsp.specs.PowerOn.{new_dsp}
use Rattle.dsp.specs.Fit.{fit}
use Rattle.dsp.specs.declared.registers.Dsp.{Dsp}
use Rattle.dsp.specs.declared.tick.Work.{Work}
use Rattle.chip_log.specs.Log.{decode}
use Rattle.chip_log.specs.Measure.{measure_of}
use Rattle.dsp.specs.Run.{Outcome, run_with, run_of}
use Rattle.rework.specs.Alike.{alike}
use Rattle.rework.specs.declared.reworking.Reworked.{Reworked}
use Rattle.refusal.specs.Refusal.{number}
use Rattle.refusal.specs.declared.Refused.{Refused}
use Rattle.rework.specs.Members.{modes_of, quiet, members, voices_in}

-- ---- the end record: the old one, with the set's own parts of the new

-- of two arrays of eight, the elements of the set from the new
unfoldable pub picked : {A : Type 0} → A → ℕ → List A → List A → List A
picked d a new old = listed (λ j. if bit a j then get_or new j d else get_or old j d) 8

-- $j0 .. $j9 of the set's voices
abbrev pub owns : ℕ → ℕ → Bool
owns a i = (i % 16 <? 10) && bit a (i / 16)

-- the ENDX bit of voice j
abbrev pub end_bit : ℕ → ℕ → ℕ → ℕ → ℕ
end_bit a new j x =
    if bit a j then with_bit x j (bit new j) else
    x

-- a register of the end record: of ENDX the set's bits are the new record's, and so are its voices' own registers
abbrev pub end_byte : ℕ → ℕ → ℕ → ℕ → ℕ
end_byte a i new old =
    if i =? 0x7C then turns (end_bit a new) 8 old else
    if owns a i then new else
    old

unfoldable pub picked_bytes : ℕ → List ℕ → List ℕ → List ℕ
picked_bytes a new old = listed (λ i. end_byte a i (get_or new i 0) (get_or old i 0)) 128

abbrev pub end_parts : ℕ → Parts → Parts → Parts
end_parts a new old =
    record {
      registers = picked_bytes a new.registers old.registers;
      voices = picked no_voice a new.voices old.voices;
      delays = picked 0 a new.delays old.delays;
      taps = old.taps;
      left = old.left;
      right = old.right;
      globals = old.globals;
    }

-- ---- the refusals but for 10, which is the run's own

-- 1: RAM; 2: the start record, then the old end record; 3 to 9: the old log, then the new; 12: they differ outside the named
-- voices; 11: FLG bit 5 is clear at some tick
unfoldable pub refusal_of : ℕ → Dsp → Dsp → List ℕ → List ℕ → List ℕ → ℕ
refusal_of s start end ram log₁ log₂ =
    if not (length ram =? 0x10000) then 1 else
    if not (fit start) then 2 else
    if not (fit end) then 2 else
    if not ((measure_of log₁).refusal =? 0) then (measure_of log₁).refusal else
    if not ((measure_of log₂).refusal =? 0) then (measure_of log₂).refusal else
    if not (alike s (decode log₁).records (decode log₂).records) then 12 else
    if not (quiet (decode log₂).records (modes_of start)) then 11 else
    0

-- ---- what a call leaves: its answer, and the lent slices

pub record Left : Type 0 where
  pub refusal : ℕ
  pub dsp : Dsp
  pub members : ℕ
  pub count : ℕ
  pub pcm : List ℕ
  pub sheet : List ℕ
  pub readings : List ℕ

abbrev pub unreworked : ℕ → Dsp → List ℕ → List ℕ → List ℕ → Left
unreworked k start pcm sheet readings = record { refusal = k; dsp = start; members = 0; count = 0; pcm = pcm; sheet = sheet; readings = readings }

-- an answer of a rework, with what it leaves in the lent slices, in these words
abbrev pub left : Result Reworked (Refused Dsp) → List ℕ → List ℕ → List ℕ → Left
left (Ok w) pcm sheet readings = record { refusal = 0; dsp = w.dsp; members = w.members; count = w.count; pcm = pcm; sheet = sheet; readings = readings }
left (Err e) pcm sheet readings = unreworked (number e.refusal) e.given pcm sheet readings

-- the set A, over the new log
abbrev pub set_of : ℕ → Dsp → List ℕ → ℕ
set_of s start log = members (decode log).records (modes_of start) s

-- only A's voices are worked; the others and the echo are the sheet's
abbrev pub only : ℕ → Work
only a = record { voices = a; echo = false }

abbrev pub reworked : ℕ → Dsp → Dsp → Outcome → Left
reworked a start end o =
    if o.refusal =? 0 then
    record {
      refusal = 0;
      dsp = together (end_parts a (apart o.dsp) (apart end));
      members = a;
      count = voices_in a;
      pcm = o.pcm;
      sheet = o.sheet;
      readings = o.readings;
    }
    else unreworked o.refusal start o.pcm o.sheet o.readings

-- s: the named voices; start: the new start record; end: the old end record; then RAM, the old log, the new one, PCM to fill, the old
-- sheet, and readings to fill
unfoldable pub rework_of : ℕ → Dsp → Dsp → List ℕ → List ℕ → List ℕ → List ℕ → List ℕ → List ℕ → Left
rework_of s start end ram log₁ log₂ pcm sheet readings =
    if refusal_of s start end ram log₁ log₂ =? 0 then
    reworked (set_of s start log₂) start end (run_with (only (set_of s start log₂)) start ram log₂ pcm sheet readings)
    else unreworked (refusal_of s start end ram log₁ log₂) start pcm sheet readings

-- ---- two sittings from `new`, the first of them run inside

abbrev pub after_first : ℕ → List ℕ → List ℕ → List ℕ → Outcome → Left
after_first s ram log₁ log₂ o =
    if o.refusal =? 0 then rework_of s new_dsp o.dsp ram log₁ log₂ o.pcm o.sheet o.readings else
    unreworked o.refusal new_dsp o.pcm o.sheet o.readings

-- all is checked before the first tick; 10 is the first run's own, whose log has as many ticks and readings as the second
unfoldable pub rework_new_of : ℕ → List ℕ → List ℕ → List ℕ → List ℕ → List ℕ → List ℕ → Left
rework_new_of s ram log₁ log₂ pcm sheet readings =
    if refusal_of s new_dsp new_dsp ram log₁ log₂ =? 0 then after_first s ram log₁ log₂ (run_of new_dsp ram log₁ pcm sheet readings) else
    unreworked (refusal_of s new_dsp new_dsp ram log₁ log₂) new_dsp pcm sheet readings
