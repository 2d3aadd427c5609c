-- Records with some of their parts replaced. The logic has no record update, so each literal stands here once.
use Rattle.std.specs.Prelude.{Bool, List, ℕ, ℤ}
use Rattle.dsp.specs.Noise.{Noise}
use Rattle.dsp.specs.Machine.{Globals}
use Rattle.dsp.specs.declared.adsr.EnvelopePhase.{EnvelopePhase}
use Rattle.dsp.specs.declared.adsr.Adsr.{Adsr}
use Rattle.dsp.specs.declared.brr.Brr.{Brr}
use Rattle.dsp.specs.declared.voice.Voice.{Voice}

-- ---- an envelope: its level, phase and counter; the settings, which only register writes change, stay

abbrev pub with_state : Adsr → ℕ → EnvelopePhase → ℕ → Adsr
with_state a level phase counter =
    record {
      adsr_mode = a.adsr_mode;
      gain_param = a.gain_param;
      attack_rate = a.attack_rate;
      decay_rate = a.decay_rate;
      sustain_level = a.sustain_level;
      sustain_rate = a.sustain_rate;
      envelope_level = level;
      envelope_phase = phase;
      tick_counter = counter;
    }

-- ---- a voice: what a tick moves; volumes, pitch and SRCN stay

abbrev pub moved : Voice → Bool → ℕ → ℤ → List ℤ → Adsr → Brr → Voice
moved v on position sample history adsr brr =
    record {
      left_vol = v.left_vol;
      right_vol = v.right_vol;
      pitch = v.pitch;
      srcn = v.srcn;
      key_on = on;
      pitch_counter = position;
      current_sample = sample;
      history = history;
      adsr = adsr;
      brr = brr;
    }

abbrev pub with_key : Voice → Bool → Adsr → Voice
with_key v on a = moved v on v.pitch_counter v.current_sample v.history a v.brr

abbrev pub with_envelope : Voice → Adsr → Voice
with_envelope v a = with_key v v.key_on a

abbrev pub with_position : Voice → ℕ → Voice
with_position v position = moved v v.key_on position v.current_sample v.history v.adsr v.brr

abbrev pub with_sample : Voice → ℤ → Voice
with_sample v x = moved v v.key_on v.pitch_counter x v.history v.adsr v.brr

abbrev pub with_brr : Voice → List ℤ → Brr → Voice
with_brr v history b = moved v v.key_on v.pitch_counter v.current_sample history v.adsr b

abbrev pub with_nibble : Brr → ℕ → Brr
with_nibble b n =
    record {
      addr = b.addr;
      nibble_idx = n;
      prev1 = b.prev1;
      prev2 = b.prev2;
      block_end = b.block_end;
      sample_buffer = b.sample_buffer;
      buffer_fill = b.buffer_fill;
    }

-- ---- the record's other numbers

-- what the poll and the noise move: the pending KON, which ticks poll, the noise
abbrev pub with_poll : Globals → ℕ → Bool → Noise → Globals
with_poll g kon other noise =
    record {
      dir_base = g.dir_base;
      master_vol_left = g.master_vol_left;
      master_vol_right = g.master_vol_right;
      flg = g.flg;
      new_kon = kon;
      every_other_sample = other;
      non = g.non;
      pmon = g.pmon;
      noise = noise;
      echo_vol_left = g.echo_vol_left;
      echo_vol_right = g.echo_vol_right;
      efb = g.efb;
      eon = g.eon;
      esa = g.esa;
      edl = g.edl;
      echo_ptr = g.echo_ptr;
      echo_len = g.echo_len;
      echo_out_l = g.echo_out_l;
      echo_out_r = g.echo_out_r;
    }

-- the echo's pointer, length and output
abbrev pub with_echo : Globals → ℕ → ℕ → ℤ → ℤ → Globals
with_echo g ptr len l r =
    record {
      dir_base = g.dir_base;
      master_vol_left = g.master_vol_left;
      master_vol_right = g.master_vol_right;
      flg = g.flg;
      new_kon = g.new_kon;
      every_other_sample = g.every_other_sample;
      non = g.non;
      pmon = g.pmon;
      noise = g.noise;
      echo_vol_left = g.echo_vol_left;
      echo_vol_right = g.echo_vol_right;
      efb = g.efb;
      eon = g.eon;
      esa = g.esa;
      edl = g.edl;
      echo_ptr = ptr;
      echo_len = len;
      echo_out_l = l;
      echo_out_r = r;
    }
