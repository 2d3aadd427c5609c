-- Noise: a step of the shift register.
use Rattle.std.specs.Prelude.{ℕ, ◌+◌, ◌/◌, ◌%◌, if◌then◌else◌}
use Rattle.numbers.specs.Choice.{◌=?◌}

-- new bit 14 is bit 0 xor bit 1, rest >> 1
unfoldable pub shifted : ℕ → ℕ
shifted r = (if r % 2 =? r / 2 % 2 then 0 else 0x4000) + r / 2
