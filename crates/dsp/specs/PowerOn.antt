-- The power-on record.
use Rattle.std.specs.Prelude.{false, pos, replicate, set}
use Rattle.dsp.specs.declared.adsr.EnvelopePhase.TheVariants.{Off}
use Rattle.dsp.specs.declared.adsr.Adsr.{Adsr}
use Rattle.dsp.specs.declared.brr.Brr.{Brr}
use Rattle.dsp.specs.declared.voice.Voice.{Voice}
use Rattle.dsp.specs.declared.registers.Dsp.{Dsp}

abbrev pub new_adsr : Adsr
new_adsr =
    record {
      adsr_mode = false;
      gain_param = 0;
      attack_rate = 0;
      decay_rate = 0;
      sustain_level = 0;
      sustain_rate = 0;
      envelope_level = 0;
      envelope_phase = Off;
      tick_counter = 0;
    }

abbrev pub new_brr : Brr
new_brr =
    record {
      addr = 0;
      nibble_idx = 0;
      prev1 = pos 0;
      prev2 = pos 0;
      block_end = false;
      sample_buffer = replicate 16 (pos 0);
      buffer_fill = 0;
    }

abbrev pub new_voice : Voice
new_voice =
    record {
      left_vol = pos 0;
      right_vol = pos 0;
      pitch = 0;
      srcn = 0;
      key_on = false;
      pitch_counter = 0;
      current_sample = pos 0;
      history = replicate 4 (pos 0);
      adsr = new_adsr;
      brr = new_brr;
    }

-- the register file starts as 128 zeros but for $E0 at $6C
abbrev pub new_dsp : Dsp
new_dsp =
    record {
      registers = set (replicate 128 0) 0x6C 0xE0;
      voices = replicate 8 new_voice;
      dir_base = 0;
      master_vol_left = pos 0;
      master_vol_right = pos 0;
      flg = 0xE0;
      new_kon = 0;
      every_other_sample = false;
      kon_delay = replicate 8 0;
      non = 0;
      pmon = 0;
      noise_lfsr = 0x4000;
      noise_tick_counter = 0;
      echo_vol_left = pos 0;
      echo_vol_right = pos 0;
      efb = pos 0;
      eon = 0;
      esa = 0;
      edl = 0;
      fir_coeff = replicate 8 (pos 0);
      fir_history_l = replicate 8 (pos 0);
      fir_history_r = replicate 8 (pos 0);
      echo_ptr = 0;
      echo_len = 0;
      echo_out_l = pos 0;
      echo_out_r = pos 0;
    }
