-- The readings that document 01 asks to be proved, as one list: what the definitions say beside what the document says. P7 names no base
-- pitch, and is claimed of every one.
use Rattle.std.specs.Prelude.{true, List, [], ◌∷◌, map, ◌≡◌, ℕ, ℤ, pos}
use Rattle.numbers.specs.Signed.{minus}
use Rattle.sound.specs.Sound.{mastered}
use Rattle.sound.specs.Brr.{decode_nibble}
use Rattle.sound.specs.Noise.{shifted}
use Rattle.dsp.specs.PowerOn.{new_voice}
use Rattle.dsp.specs.Registers.{write_voice}
use Rattle.dsp.specs.Envelope.{envelope_tick}
use Rattle.dsp.specs.Keys.{keyed_on}
use Rattle.dsp.specs.Voice.{modulated_by, pitch_of, samples_taken}
use Rattle.dsp.specs.declared.adsr.EnvelopePhase.TheVariants.{Decay}
use Rattle.dsp.specs.declared.adsr.Adsr.{Adsr}
use Rattle.dsp.specs.declared.voice.Voice.{Voice}

pub record Reading : Type 0 where
  pub says : ℤ
  pub wanted : ℤ

infix 3 ◌reads◌
abbrev pub ◌reads◌ : ℤ → ℤ → Reading
a reads b = record { says = a; wanted = b }

-- Decay with sustain level 7 and decay rate 0, whose entry 16 has period 64
abbrev due_decay : ℕ → Adsr
due_decay level =
    record {
      adsr_mode = true;
      gain_param = 0;
      attack_rate = 0;
      decay_rate = 0;
      sustain_level = 7;
      sustain_rate = 0;
      envelope_level = level;
      envelope_phase = Decay;
      tick_counter = 63;
    }

-- a voice of pitch $3FFF, by its two registers
abbrev highest : Voice
highest = write_voice 3 0x3F (write_voice 2 0xFF new_voice)

abbrev pub readings : ℕ → List Reading
readings base =
    -- P1 nibble -8, shift 12, filter 0
    (decode_nibble (minus 8) 12 0 (pos 0) (pos 0) reads minus 32768)
    -- P2 -1, shift 13, filter 0; and 5
    ∷ (decode_nibble (minus 1) 13 0 (pos 0) (pos 0) reads minus 4096)
    ∷ (decode_nibble (pos 5) 13 0 (pos 0) (pos 0) reads pos 0)
    -- P3 shift 0, filter 0: 1, and -1
    ∷ (decode_nibble (pos 1) 0 0 (pos 0) (pos 0) reads pos 0)
    ∷ (decode_nibble (minus 1) 0 0 (pos 0) (pos 0) reads minus 2)
    -- P4 nibble 7, shift 12, filter 2, previous 28672, -28672
    ∷ (decode_nibble (pos 7) 12 2 (pos 28672) (minus 28672) reads minus 2)
    -- P5 nibble 0, filter 1, previous 2
    ∷ (decode_nibble (pos 0) 0 1 (pos 2) (pos 0) reads pos 0)
    -- P6 noise $4000, and $0001
    ∷ (pos (shifted 0x4000) reads pos 0x2000)
    ∷ (pos (shifted 0x0001) reads pos 0x4000)
    -- P7 pitch source -32768
    ∷ (pitch_of base (modulated_by (minus 32768)) reads pos 0)
    -- P8 source 32766, base $3FFF; from position 0, 7 samples
    ∷ (pitch_of 0x3FFF (modulated_by (pos 32766)) reads pos 32750)
    ∷ (pos (samples_taken (modulated_by (pos 32766)) highest) reads pos 7)
    -- P9 Decay due at $7FF, sustain level 7
    ∷ (pos (envelope_tick (due_decay 0x7FF)).envelope_level reads pos 0x800)
    -- P10 dry -32768, master -128
    ∷ (mastered (minus 32768) (minus 128) (pos 0) (pos 0) reads minus 32768)
    -- P11 DIR $FF, SRCN $40: a key-on takes entry $0000
    ∷ (pos (keyed_on true 0xFF (write_voice 4 0x40 new_voice)).brr.addr reads pos 0)
    ∷ []

-- the claim
abbrev pub AllAsTheDocument : Type 0
AllAsTheDocument = (base : ℕ) → map (λ (r : Reading). r.says) (readings base) ≡ map (λ (r : Reading). r.wanted) (readings base)
