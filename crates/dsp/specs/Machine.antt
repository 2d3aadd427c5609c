-- The machine record as its parts, which are its arrays and its other numbers, and made of them again.
use Rattle.std.specs.Prelude.{Bool, false, List, [], ℕ, ℤ, pos}
use Rattle.dsp.specs.Noise.{Noise}
use Rattle.dsp.specs.declared.adsr.EnvelopePhase.TheVariants.{Attack}
use Rattle.dsp.specs.declared.voice.Voice.{Voice}
use Rattle.dsp.specs.declared.registers.Dsp.{Dsp}

-- the numbers that belong to no voice and stand in no array
pub record Globals : Type 0 where
  pub dir_base : ℕ
  pub master_vol_left : ℤ
  pub master_vol_right : ℤ
  pub flg : ℕ
  pub new_kon : ℕ
  pub every_other_sample : Bool
  pub non : ℕ
  pub pmon : ℕ
  pub noise : Noise
  pub echo_vol_left : ℤ
  pub echo_vol_right : ℤ
  pub efb : ℤ
  pub eon : ℕ
  pub esa : ℕ
  pub edl : ℕ
  pub echo_ptr : ℕ
  pub echo_len : ℕ
  pub echo_out_l : ℤ
  pub echo_out_r : ℤ

pub record Parts : Type 0 where
  pub registers : List ℕ
  pub voices : List Voice
  pub delays : List ℕ
  pub taps : List ℤ
  pub left : List ℤ
  pub right : List ℤ
  pub globals : Globals

abbrev pub globals_of : Dsp → Globals
globals_of d =
    record {
      dir_base = d.dir_base;
      master_vol_left = d.master_vol_left;
      master_vol_right = d.master_vol_right;
      flg = d.flg;
      new_kon = d.new_kon;
      every_other_sample = d.every_other_sample;
      non = d.non;
      pmon = d.pmon;
      noise = record { lfsr = d.noise_lfsr; counter = d.noise_tick_counter };
      echo_vol_left = d.echo_vol_left;
      echo_vol_right = d.echo_vol_right;
      efb = d.efb;
      eon = d.eon;
      esa = d.esa;
      edl = d.edl;
      echo_ptr = d.echo_ptr;
      echo_len = d.echo_len;
      echo_out_l = d.echo_out_l;
      echo_out_r = d.echo_out_r;
    }

abbrev pub apart : Dsp → Parts
apart d =
    record {
      registers = d.registers;
      voices = d.voices;
      delays = d.kon_delay;
      taps = d.fir_coeff;
      left = d.fir_history_l;
      right = d.fir_history_r;
      globals = globals_of d;
    }

abbrev pub together : Parts → Dsp
together p =
    record {
      registers = p.registers;
      voices = p.voices;
      dir_base = p.globals.dir_base;
      master_vol_left = p.globals.master_vol_left;
      master_vol_right = p.globals.master_vol_right;
      flg = p.globals.flg;
      new_kon = p.globals.new_kon;
      every_other_sample = p.globals.every_other_sample;
      kon_delay = p.delays;
      non = p.globals.non;
      pmon = p.globals.pmon;
      noise_lfsr = p.globals.noise.lfsr;
      noise_tick_counter = p.globals.noise.counter;
      echo_vol_left = p.globals.echo_vol_left;
      echo_vol_right = p.globals.echo_vol_right;
      efb = p.globals.efb;
      eon = p.globals.eon;
      esa = p.globals.esa;
      edl = p.globals.edl;
      fir_coeff = p.taps;
      fir_history_l = p.left;
      fir_history_r = p.right;
      echo_ptr = p.globals.echo_ptr;
      echo_len = p.globals.echo_len;
      echo_out_l = p.globals.echo_out_l;
      echo_out_r = p.globals.echo_out_r;
    }

-- what a list of voices gives past its end: the language's own default
abbrev pub no_voice : Voice
no_voice =
    record {
      left_vol = pos 0;
      right_vol = pos 0;
      pitch = 0;
      srcn = 0;
      key_on = false;
      pitch_counter = 0;
      current_sample = pos 0;
      history = [];
      adsr =
          record {
            adsr_mode = false;
            gain_param = 0;
            attack_rate = 0;
            decay_rate = 0;
            sustain_level = 0;
            sustain_rate = 0;
            envelope_level = 0;
            envelope_phase = Attack;
            tick_counter = 0;
          };
      brr =
          record {
            addr = 0;
            nibble_idx = 0;
            prev1 = pos 0;
            prev2 = pos 0;
            block_end = false;
            sample_buffer = [];
            buffer_fill = 0;
          };
    }
