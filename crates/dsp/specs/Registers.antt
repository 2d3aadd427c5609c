-- Register writes: what each register changes. A rule for each field says when it takes the value.
use Rattle.std.specs.Prelude.{Bool, ◌&&◌, List, map, ℕ, ◌*◌, ◌/◌, ◌%◌, ℤ, pos, get_or, set, if◌then◌else◌}
use Rattle.numbers.specs.Choice.{◌<?◌, ◌=?◌}
use Rattle.numbers.specs.Signed.{cut_z}
use Rattle.numbers.specs.Unsigned.{with_low, with_high}
use Rattle.numbers.specs.Bits.{bit}
use Rattle.dsp.specs.Machine.{Globals, Parts, no_voice, apart, together}
use Rattle.dsp.specs.Fit.{fit}
use Rattle.dsp.specs.Keys.{silenced}
use Rattle.dsp.specs.declared.voice.Voice.{Voice}
use Rattle.dsp.specs.declared.registers.Dsp.{Dsp}

-- the new value where the register is the one named, else the old
abbrev pub at : {A : Type 0} → ℕ → ℕ → A → A → A
at i register new old = if i =? register then new else old

-- ---- a voice's own registers, by the low digit of their number

abbrev pub write_voice : ℕ → ℕ → Voice → Voice
write_voice i x v =
    record {
      left_vol = at i 0 (cut_z 0x80 (pos x)) v.left_vol;
      right_vol = at i 1 (cut_z 0x80 (pos x)) v.right_vol;
      pitch = at i 2 (with_low v.pitch x) (at i 3 (with_high v.pitch (x % 64)) v.pitch);
      srcn = at i 4 x v.srcn;
      key_on = v.key_on;
      pitch_counter = v.pitch_counter;
      current_sample = v.current_sample;
      history = v.history;
      adsr =
          record {
            adsr_mode = at i 5 (bit x 7) v.adsr.adsr_mode;
            gain_param = at i 7 x v.adsr.gain_param;
            attack_rate = at i 5 (x % 16) v.adsr.attack_rate;
            decay_rate = at i 5 (x / 16 % 8) v.adsr.decay_rate;
            sustain_level = at i 6 (x / 32) v.adsr.sustain_level;
            sustain_rate = at i 6 (x % 32) v.adsr.sustain_rate;
            envelope_level = v.adsr.envelope_level;
            envelope_phase = v.adsr.envelope_phase;
            tick_counter = v.adsr.tick_counter;
          };
      brr = v.brr;
    }

-- ---- RESET: a $6C value with bit 7 silences every voice and clears ENDX

abbrev pub resets : ℕ → ℕ → Bool
resets i x = (i =? 0x6C) && bit x 7

-- ---- the global registers

abbrev pub globals_after : ℕ → ℕ → Globals → Globals
globals_after i x g =
    record {
      dir_base = at i 0x5D x g.dir_base;
      master_vol_left = at i 0x0C (cut_z 0x80 (pos x)) g.master_vol_left;
      master_vol_right = at i 0x1C (cut_z 0x80 (pos x)) g.master_vol_right;
      flg = at i 0x6C x g.flg;
      new_kon = at i 0x4C x g.new_kon;
      every_other_sample = g.every_other_sample;
      non = at i 0x3D x g.non;
      pmon = at i 0x2D (x / 2 * 2) g.pmon;
      noise = g.noise;
      echo_vol_left = at i 0x2C (cut_z 0x80 (pos x)) g.echo_vol_left;
      echo_vol_right = at i 0x3C (cut_z 0x80 (pos x)) g.echo_vol_right;
      efb = at i 0x0D (cut_z 0x80 (pos x)) g.efb;
      eon = at i 0x4D x g.eon;
      esa = at i 0x6D x g.esa;
      edl = at i 0x7D (x % 16) g.edl;
      echo_ptr = g.echo_ptr;
      echo_len = g.echo_len;
      echo_out_l = g.echo_out_l;
      echo_out_r = g.echo_out_r;
    }

-- ---- any register

-- any write to $7C leaves 0, whatever the value (document 02, W-202)
abbrev pub endx_write : ℕ → ℕ
endx_write x = 0

abbrev pub bytes_after : ℕ → ℕ → List ℕ → List ℕ
bytes_after i x bytes =
    if resets i x then set (set bytes i x) 0x7C 0 else
    set bytes i (at i 0x7C (endx_write x) x)

abbrev pub voices_after : ℕ → ℕ → List Voice → List Voice
voices_after i x vs =
    if i % 16 <? 8 then set vs (i / 16) (write_voice (i % 16) x (get_or vs (i / 16) no_voice)) else
    if resets i x then map silenced vs else
    vs

abbrev pub taps_after : ℕ → ℕ → List ℤ → List ℤ
taps_after i x taps =
    if i % 16 =? 15 then set taps (i / 16) (cut_z 0x80 (pos x)) else
    taps

unfoldable pub write_parts : ℕ → ℕ → Parts → Parts
write_parts i x p =
    record {
      registers = bytes_after i x p.registers;
      voices = voices_after i x p.voices;
      delays = p.delays;
      taps = taps_after i x p.taps;
      left = p.left;
      right = p.right;
      globals = globals_after i x p.globals;
    }

unfoldable pub write_at : ℕ → ℕ → Dsp → Dsp
write_at i x d = together (write_parts i x (apart d))

-- ---- the public write

pub record Written : Type 0 where
  pub refusal : ℕ
  pub dsp : Dsp

-- the direct register write masks its index with $7F; 2: the record is unfit
unfoldable pub write_of : ℕ → ℕ → Dsp → Written
write_of index x d =
    if fit d then record { refusal = 0; dsp = write_at (index % 128) x d } else
    record { refusal = 2; dsp = d }
