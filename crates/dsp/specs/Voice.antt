-- One voice for one tick that does not skip it: envelope; idle return; resolve and decode; pitch; consume; interpolate; ENVX.
use Rattle.std.specs.Prelude.{Bool, not, ◌&&◌, ◌||◌, List, ℕ, zero, suc, ◌+◌, ◌-◌, ◌/◌, ◌%◌, ℤ, pos, ◌+ℤ◌, ◌*ℤ◌, get_or, if◌then◌else◌}
use Rattle.numbers.specs.Choice.{◌=?◌}
use Rattle.numbers.specs.Listed.{moved_on}
use Rattle.numbers.specs.Signed.{natural, ◌>>◌}
use Rattle.numbers.specs.Unsigned.{wrapped, least}
use Rattle.dsp.specs.With.{with_envelope, with_position, with_sample, with_brr, with_nibble}
use Rattle.dsp.specs.Envelope.{is_off, envelope_tick}
use Rattle.dsp.specs.Keys.{silenced}
use Rattle.dsp.specs.Ram.{word_at, entry_of}
use Rattle.dsp.specs.Brr.{DecodedBlock, decode_block}
use Rattle.dsp.specs.Interpolation.{interpolate_z}
use Rattle.dsp.specs.declared.brr.Brr.{Brr}
use Rattle.dsp.specs.declared.voice.Voice.{Voice}

-- a voice in its tick, with its ENDX bit
pub record Sounding : Type 0 where
  pub voice : Voice
  pub endx : Bool

-- ---- pitch

-- what modulates a voice's pitch in this tick
pub data PitchSource : Type 0 where
  plain : PitchSource
  modulated_by : ℤ → PitchSource

-- modulated pitch: b + (((x >> 5) · b) >> 10), never negative where x has 16 bits (`pitch_nat`)
unfoldable pub pitch_of : ℕ → PitchSource → ℤ
pitch_of b plain = pos b
pitch_of b (modulated_by x) = pos b +ℤ (((x >> 5) *ℤ pos b) >> 10)

-- position: (old modulo $4000) + pitch, cap $7FFF
unfoldable pub position_of : PitchSource → Voice → ℕ
position_of x v = least (v.pitch_counter % 0x4000 + natural (pitch_of v.pitch x)) 0x7FFF

-- samples taken are the difference of position >> 12
unfoldable pub samples_taken : PitchSource → Voice → ℕ
samples_taken x v = position_of x v / 0x1000 - v.pitch_counter % 0x4000 / 0x1000

-- ---- blocks

-- the block at a lies in the buffer, which is full
abbrev pub block_of : ℕ → DecodedBlock → Brr
block_of a d =
    record {
      addr = a;
      nibble_idx = 0;
      prev1 = d.prev1;
      prev2 = d.prev2;
      block_end = d.end;
      sample_buffer = d.samples;
      buffer_fill = 16;
    }

abbrev pub filled : ℕ → DecodedBlock → Voice → Voice
filled a d v = with_brr v v.history (block_of a d)

-- an end block without loop: level 0, Off, key_on clear
unfoldable pub placed : ℕ → DecodedBlock → Voice → Voice
placed a d v =
    if d.end && not d.loops then silenced (filled a d v) else
    filled a d v

-- an end block sets ENDX
abbrev pub with_block : ℕ → Sounding → DecodedBlock → Sounding
with_block a s d = record { voice = placed a d s.voice; endx = s.endx || d.end }

unfoldable pub decoded_at : List ℕ → ℕ → Sounding → Sounding
decoded_at ram a s = with_block a s (decode_block ram a s.voice.brr.prev1 s.voice.brr.prev2)

-- after an end block the loop address, of DIR and SRCN of that moment; else 9 bytes on
unfoldable pub next_address : List ℕ → ℕ → ℕ → Brr → ℕ
next_address ram dir srcn b =
    if b.block_end then word_at ram (entry_of dir srcn + 2) else
    wrapped (b.addr + 9)

unfoldable pub next_block : List ℕ → ℕ → ℕ → Sounding → Sounding
next_block ram dir srcn s = decoded_at ram (next_address ram dir srcn s.voice.brr) s

-- resolve address and decode if fill is 0
unfoldable pub resolved : List ℕ → Sounding → Sounding
resolved ram s =
    if s.voice.brr.buffer_fill =? 0 then decoded_at ram (word_at ram s.voice.brr.addr) s else
    s

-- ---- samples, one by one

-- the next sample of the block
abbrev pub sample_now : Brr → ℤ
sample_now b = get_or b.sample_buffer b.nibble_idx (pos 0)

-- a sample goes into the history of four, oldest first
unfoldable pub pushed : Voice → Voice
pushed v = with_brr v (moved_on v.history (sample_now v.brr)) (with_nibble v.brr (v.brr.nibble_idx + 1))

abbrev pub pushed_next : Sounding → Sounding
pushed_next s = record { voice = pushed s.voice; endx = s.endx }

abbrev pub last_of : Sounding → Bool
last_of s = s.voice.brr.nibble_idx =? 15

-- one sample taken, and the block change after the sixteenth
unfoldable pub take_one : List ℕ → ℕ → ℕ → Sounding → Sounding
take_one ram dir srcn s =
    if last_of s then next_block ram dir srcn (pushed_next s) else
    pushed_next s

-- n samples; after a block change with key_on clear the further ones are dropped
unfoldable pub consume : List ℕ → ℕ → ℕ → ℕ → Sounding → Sounding
consume ram dir srcn zero s = s
consume ram dir srcn (suc n) s =
    if last_of s && not (take_one ram dir srcn s).voice.key_on then take_one ram dir srcn s else
    consume ram dir srcn n (take_one ram dir srcn s)

-- ---- the step

-- key_on is clear and phase Off
abbrev pub idle : Voice → Bool
idle v = not v.key_on && is_off v.adsr.envelope_phase

-- the position moves by the full pitch, then its samples are taken
unfoldable pub advanced : List ℕ → ℕ → ℕ → PitchSource → Sounding → Sounding
advanced ram dir srcn x s =
    consume ram dir srcn (samples_taken x s.voice) (record { voice = with_position s.voice (position_of x s.voice); endx = s.endx })

unfoldable pub interpolated : Voice → Voice
interpolated v = with_sample v (interpolate_z v.pitch_counter v.history)

pub record Stepped : Type 0 where
  pub sounding : Sounding
  pub envx : ℕ

-- ENVX = level >> 4
abbrev pub shown : Sounding → Stepped
shown s = record { sounding = record { voice = interpolated s.voice; endx = s.endx }; envx = s.voice.adsr.envelope_level / 16 }

-- an idle voice returns with its ENVX untouched
unfoldable pub sounded : List ℕ → ℕ → ℕ → PitchSource → ℕ → Sounding → Stepped
sounded ram dir srcn x envx s =
    if idle s.voice then record { sounding = s; envx = envx } else
    shown (advanced ram dir srcn x (resolved ram s))

unfoldable pub voice_step : List ℕ → ℕ → ℕ → PitchSource → ℕ → Sounding → Stepped
voice_step ram dir srcn x envx s =
    sounded ram dir srcn x envx (record { voice = with_envelope s.voice (envelope_tick s.voice.adsr); endx = s.endx })
