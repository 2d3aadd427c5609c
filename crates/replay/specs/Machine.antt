-- A record that is as `new` gives it but for its voice 0, and one tick of it.
use Rattle.std.specs.Prelude.{true, false, List, ℕ, ℤ, pos, get_or, replicate, set}
use Rattle.dsp.specs.Machine.{no_voice, globals_of, together}
use Rattle.dsp.specs.PowerOn.{new_dsp}
use Rattle.dsp.specs.Registers.{Written}
use Rattle.dsp.specs.Ticks.{After, step_of}
use Rattle.dsp.specs.declared.adsr.EnvelopePhase.TheVariants.{Attack}
use Rattle.dsp.specs.declared.adsr.Adsr.{Adsr}
use Rattle.dsp.specs.declared.brr.Brr.{Brr}
use Rattle.dsp.specs.declared.voice.Voice.{Voice}
use Rattle.dsp.specs.declared.registers.Dsp.{Dsp}

unfoldable pub zeros : List ℕ
zeros = replicate 0x10000 0

abbrev pub steady : Adsr
steady =
    record {
      adsr_mode = false;
      gain_param = 0;
      attack_rate = 0;
      decay_rate = 0;
      sustain_level = 0;
      sustain_rate = 0;
      envelope_level = 0;
      envelope_phase = Attack;
      tick_counter = 0;
    }

abbrev pub playback : ℕ → ℤ → ℤ → ℕ → Brr
playback addr prev1 prev2 fill =
    record {
      addr = addr;
      nibble_idx = 0;
      prev1 = prev1;
      prev2 = prev2;
      block_end = false;
      sample_buffer = replicate 16 (pos 0);
      buffer_fill = fill;
    }

abbrev pub playing : Adsr → Brr → ℕ → List ℤ → Voice
playing adsr brr position history =
    record {
      left_vol = pos 0;
      right_vol = pos 0;
      pitch = 0;
      srcn = 0;
      key_on = true;
      pitch_counter = position;
      current_sample = pos 0;
      history = history;
      adsr = adsr;
      brr = brr;
    }

-- d with another voice 0
abbrev pub with_first : Dsp → Voice → Dsp
with_first d v =
    together
    (record {
      registers = d.registers;
      voices = set d.voices 0 v;
      delays = d.kon_delay;
      taps = d.fir_coeff;
      left = d.fir_history_l;
      right = d.fir_history_r;
      globals = globals_of d;
    })

abbrev pub as_answer : After → Written
as_answer a = record { refusal = a.refusal; dsp = a.dsp }

unfoldable pub answered : Voice → List ℕ → Written
answered v ram = as_answer (step_of (with_first new_dsp v) ram)

abbrev pub sound_of : Dsp → Voice
sound_of d = get_or d.voices 0 no_voice
