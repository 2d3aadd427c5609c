-- A voice's tick, in document 01's order: poll; skipped tick or step; NON; scaled output; what lands in the registers, the sums and the sheet.
-- What a voice depends on stands in `cell_of`, and what it leaves in `landed`.
use Rattle.std.specs.Prelude.{Bool, List, ℕ, ◌+◌, ◌-◌, ◌*◌, ◌%◌, ℤ, pos, get_or, set, if◌then◌else◌}
use Rattle.numbers.specs.Choice.{◌=?◌}
use Rattle.numbers.specs.Signed.{high_z}
use Rattle.numbers.specs.Bits.{bit, with_bit}
use Rattle.sound.specs.Sound.{even, joined}
use Rattle.dsp.specs.With.{with_sample}
use Rattle.dsp.specs.Keys.{polled_voice, polled_endx, polled_delay}
use Rattle.dsp.specs.Voice.{Sounding, PitchSource, plain, modulated_by, Stepped, voice_step}
use Rattle.dsp.specs.Mix.{Stereo, output_of, silent, with_voice}
use Rattle.dsp.specs.Sheet.{lane_bytes}
use Rattle.dsp.specs.declared.voice.Voice.{Voice}

-- what all voices see in a tick. koff and kon are 0 on a tick without a poll; dir is the DIR byte, dir_base the field
pub record Shared : Type 0 where
  pub koff : ℕ
  pub kon : ℕ
  pub dir_base : ℕ
  pub dir : ℕ
  pub non : ℕ
  pub pmon : ℕ
  pub eon : ℕ
  pub noise : ℤ

-- ---- the poll

unfoldable pub polled_of : Shared → ℕ → Voice → Bool → Sounding
polled_of c j v endx = record { voice = polled_voice (bit c.koff j) (bit c.kon j) c.dir_base v; endx = polled_endx (bit c.kon j) endx }

-- ---- a skipped tick or the step

pub record Waiting : Type 0 where
  pub sounding : Sounding
  pub delay : ℕ
  pub envx : ℕ

abbrev pub let_step : Stepped → Waiting
let_step t = record { sounding = t.sounding; delay = 0; envx = t.envx }

-- a skipped tick sets ENVX to 0
unfoldable pub waited : List ℕ → ℕ → ℕ → PitchSource → ℕ → ℕ → Sounding → Waiting
waited ram dir srcn x envx delay s =
    if delay =? 0 then let_step (voice_step ram dir srcn x envx s) else
    record { sounding = s; delay = delay - 1; envx = 0 }

-- the pitch source: what the voice before gave this tick, where PMON selects it
unfoldable pub source_of : ℕ → ℕ → ℤ → PitchSource
source_of pmon j prev =
    if bit pmon j then modulated_by prev else
    plain

-- of what all see, RAM, its number, what the voice before gave, and its own record, delay, SRCN and ENVX bytes, and ENDX bit
unfoldable pub waited_of : Shared → List ℕ → ℕ → ℤ → Voice → ℕ → ℕ → ℕ → Bool → Waiting
waited_of c ram j prev v delay srcn envx endx =
    waited ram c.dir srcn (source_of c.pmon j prev) envx (polled_delay (bit c.kon j) delay) (polled_of c j v endx)

-- ---- NON, and the scaled output

-- NON replaces the sample after the voice step
unfoldable pub noised : Bool → ℤ → Voice → Voice
noised on x v = with_sample v (if on then x else v.current_sample)

-- what a voice's tick gives: the voice, its delay, its scaled output, ENVX and ENDX
pub record Cell : Type 0 where
  pub voice : Voice
  pub delay : ℕ
  pub out : ℤ
  pub envx : ℕ
  pub endx : Bool

abbrev pub cell_from : Waiting → Voice → Cell
cell_from w v = record { voice = v; delay = w.delay; out = output_of v; envx = w.envx; endx = w.sounding.endx }

unfoldable pub cell_after : Shared → ℕ → Waiting → Cell
cell_after c j w = cell_from w (noised (bit c.non j) c.noise w.sounding.voice)

unfoldable pub cell_of : Shared → List ℕ → ℕ → ℤ → Voice → ℕ → ℕ → ℕ → Bool → Cell
cell_of c ram j prev v delay srcn envx endx = cell_after c j (waited_of c ram j prev v delay srcn envx endx)

-- the cell of voice j, of its own bytes and ENDX bit
unfoldable pub own_cell : Shared → List ℕ → ℕ → ℤ → Voice → ℕ → List ℕ → Cell
own_cell c ram j prev v delay bytes =
    cell_of c ram j prev v delay (get_or bytes (j * 16 + 4) 0) (get_or bytes (j * 16 + 8) 0) (bit (get_or bytes 0x7C 0) j)

-- a voice that is not stepped: its lane of the sheet gives its output, its ENVX, and by the low bit of the last byte its ENDX
unfoldable pub shown_cell : List ℕ → Voice → ℕ → Cell
shown_cell slot v delay =
    record { voice = v; delay = delay; out = joined (get_or slot 0 0) (get_or slot 1 0); envx = get_or slot 2 0; endx = get_or slot 3 0 % 2 =? 1 }

-- ---- what lands in the registers, the sums and the sheet

-- the ENDX bit of voice j
abbrev pub put_endx : ℕ → Bool → List ℕ → List ℕ
put_endx j endx bytes = set bytes 0x7C (with_bit (get_or bytes 0x7C 0) j endx)

-- ENVX, OUTX, which is the output's top byte, and the ENDX bit
unfoldable pub put_bytes : ℕ → ℕ → ℤ → Bool → List ℕ → List ℕ
put_bytes j envx out endx bytes = put_endx j endx (set (set bytes (j * 16 + 8) envx) (j * 16 + 9) (high_z out))

-- what a tick carries from voice to voice: the output that may modulate the next one, the dry sum, and the echo input
pub record Sums : Type 0 where
  pub prev : ℤ
  pub dry : Stereo
  pub input : Stereo

abbrev pub no_sums : Sums
no_sums = record { prev = pos 0; dry = silent; input = silent }

-- the modulating output has bit 0 cleared, the dry one keeps it; the sums clamp after each voice
unfoldable pub added : Bool → ℤ → ℤ → ℤ → Sums → Sums
added echo out left right a =
    record {
      prev = even out;
      dry = with_voice out left right a.dry;
      input = if echo then with_voice out left right a.input else a.input;
    }

-- slot: the voice's lane of the sheet, which is rewritten where the voice is worked
pub record Landed : Type 0 where
  pub voice : Voice
  pub delay : ℕ
  pub sums : Sums
  pub bytes : List ℕ
  pub slot : List ℕ

abbrev pub landed : Bool → Shared → ℕ → Sums → List ℕ → List ℕ → Cell → Landed
landed worked c j a bytes slot x =
    record {
      voice = x.voice;
      delay = x.delay;
      sums = added (bit c.eon j) x.out x.voice.left_vol x.voice.right_vol a;
      bytes = put_bytes j x.envx x.out x.endx bytes;
      slot = if worked then lane_bytes x.out x.envx x.endx else slot;
    }

-- a voice is worked, or shown from the sheet
unfoldable pub turned : Bool → Shared → List ℕ → ℕ → Voice → ℕ → Sums → List ℕ → List ℕ → Landed
turned worked c ram j v delay a bytes slot =
    landed worked c j a bytes slot (if worked then own_cell c ram j a.prev v delay bytes else shown_cell slot v delay)
