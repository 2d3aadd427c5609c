-- Noise: the shift register that all voices share, under its clock.
use Rattle.std.specs.Prelude.{ℕ, ◌*◌, ◌%◌, ℤ, pos, if◌then◌else◌}
use Rattle.numbers.specs.Signed.{cut_z}
use Rattle.sound.specs.Noise.{shifted}
use Rattle.dsp.specs.Clock.{fires, counted_on}

pub record Noise : Type 0 where
  pub lfsr : ℕ
  pub counter : ℕ

-- at the entry in FLG bits 4-0
unfoldable pub noise_tick : ℕ → Noise → Noise
noise_tick flg n =
    record {
      lfsr = if fires n.counter (flg % 32) then shifted n.lfsr else n.lfsr;
      counter = counted_on n.counter (flg % 32);
    }

-- the register doubled, to 16 bits
abbrev pub noise_sample : Noise → ℤ
noise_sample n = cut_z 0x8000 (pos (2 * n.lfsr))
