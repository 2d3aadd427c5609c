-- What a record of the envelope must say.
use Rattle.std.specs.Prelude.{Bool, ◌&&◌, List, ℕ, pos, replicate, if◌then◌else◌}
use Rattle.numbers.specs.Choice.{◌≤?◌, ◌=?◌}
use Rattle.dsp.specs.Registers.{Written}
use Rattle.dsp.specs.declared.adsr.EnvelopePhase.{EnvelopePhase}
use Rattle.dsp.specs.declared.adsr.EnvelopePhase.TheVariants.{Attack, Decay, Sustain, Release, Off}
use Rattle.dsp.specs.declared.adsr.Adsr.{Adsr}
use Rattle.replay.specs.Records.{u8_at, u16_at}
use Rattle.replay.specs.Machine.{zeros, playback, playing, answered, sound_of}

-- adsr_mode, gain_param, attack_rate, decay_rate, sustain_level, sustain_rate, level, phase, counter | level, phase, counter

abbrev pub phase_of : ℕ → EnvelopePhase
phase_of n =
    if n =? 0 then Attack else
    if n =? 1 then Decay else
    if n =? 2 then Sustain else
    if n =? 3 then Release else
    Off

abbrev pub phase_number : EnvelopePhase → ℕ
phase_number Attack = 0
phase_number Decay = 1
phase_number Sustain = 2
phase_number Release = 3
phase_number Off = 4

abbrev pub adsr_of : List ℕ → Adsr
adsr_of r =
    record {
      adsr_mode = u8_at r 0 =? 1;
      gain_param = u8_at r 1;
      attack_rate = u8_at r 2;
      decay_rate = u8_at r 3;
      sustain_level = u8_at r 4;
      sustain_rate = u8_at r 5;
      envelope_level = u16_at r 6;
      envelope_phase = phase_of (u8_at r 8);
      tick_counter = u16_at r 9;
    }

abbrev pub typed : List ℕ → Bool
typed r = (u8_at r 0 ≤? 1) && (u8_at r 8 ≤? 4)

abbrev pub envelope_says : Adsr → List ℕ → Bool
envelope_says e r =
    (e.envelope_level =? u16_at r 11) && (phase_number e.envelope_phase =? u8_at r 13) && (e.tick_counter =? u16_at r 14)

-- a tick refuses a record that is not fit
abbrev pub answer_says : Written → List ℕ → Bool
answer_says a r = (a.refusal =? 0) && typed r && envelope_says (sound_of a.dsp).adsr r

unfoldable pub envelope_equal : List ℕ → Bool
envelope_equal r = answer_says (answered (playing (adsr_of r) (playback 0 (pos 0) (pos 0) 16) 0 (replicate 4 (pos 0))) zeros) r
