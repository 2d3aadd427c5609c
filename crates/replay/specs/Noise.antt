-- What a record of the noise must say, and what it hands on.
use Rattle.std.specs.Prelude.{Bool, ◌&&◌, List, ℕ}
use Rattle.numbers.specs.Choice.{◌=?◌}
use Rattle.dsp.specs.Noise.{Noise}
use Rattle.dsp.specs.Machine.{Globals, globals_of, together}
use Rattle.dsp.specs.PowerOn.{new_dsp}
use Rattle.dsp.specs.Registers.{Written}
use Rattle.dsp.specs.Ticks.{step_of}
use Rattle.dsp.specs.declared.registers.Dsp.{Dsp}
use Rattle.replay.specs.Records.{u8_at, i16_at, ◌=ℤ?◌}
use Rattle.replay.specs.Machine.{zeros, as_answer, sound_of}

-- whether a record says what the leaf gives, and the noise that it hands on
pub record Check : Type 0 where
  pub equal : Bool
  pub carry : Noise

abbrev pub carry_of : Dsp → Noise
carry_of d = record { lfsr = d.noise_lfsr; counter = d.noise_tick_counter }

-- g with this FLG and this noise, which all voices give
abbrev pub noisy_globals : ℕ → Noise → Globals → Globals
noisy_globals flg n g =
    record {
      dir_base = g.dir_base;
      master_vol_left = g.master_vol_left;
      master_vol_right = g.master_vol_right;
      flg = flg;
      new_kon = g.new_kon;
      every_other_sample = g.every_other_sample;
      non = 0xFF;
      pmon = g.pmon;
      noise = n;
      echo_vol_left = g.echo_vol_left;
      echo_vol_right = g.echo_vol_right;
      efb = g.efb;
      eon = g.eon;
      esa = g.esa;
      edl = g.edl;
      echo_ptr = g.echo_ptr;
      echo_len = g.echo_len;
      echo_out_l = g.echo_out_l;
      echo_out_r = g.echo_out_r;
    }

abbrev pub with_noise : ℕ → Noise → Dsp → Dsp
with_noise flg n d =
    together
    (record {
      registers = d.registers;
      voices = d.voices;
      delays = d.kon_delay;
      taps = d.fir_coeff;
      left = d.fir_history_l;
      right = d.fir_history_r;
      globals = noisy_globals flg n (globals_of d);
    })

unfoldable pub noisy_answer : ℕ → Noise → Written
noisy_answer flg n = as_answer (step_of (with_noise flg n new_dsp) zeros)

-- FLG | sample
abbrev pub noise_says : Written → List ℕ → Check
noise_says a r =
    record {
      equal = (a.refusal =? 0) && ((sound_of a.dsp).current_sample =ℤ? i16_at r 1);
      carry = carry_of a.dsp;
    }

unfoldable pub noise_check : List ℕ → Noise → Check
noise_check r carry = noise_says (noisy_answer (u8_at r 0) carry) r
