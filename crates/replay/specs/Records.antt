-- Numbers out of a record, and two of them compared.
use Rattle.std.specs.Prelude.{Bool, false, List, ℕ, ◌+◌, ◌*◌, ℤ, pos, negsuc, get_or}
use Rattle.numbers.specs.Choice.{◌=?◌}
use Rattle.numbers.specs.Signed.{cut_z}

abbrev pub u8_at : List ℕ → ℕ → ℕ
u8_at bytes i = get_or bytes i 0

-- 16 bits, low byte first
abbrev pub u16_at : List ℕ → ℕ → ℕ
u16_at bytes i = u8_at bytes i + 0x100 * u8_at bytes (i + 1)

abbrev pub i8_at : List ℕ → ℕ → ℤ
i8_at bytes i = cut_z 0x80 (pos (u8_at bytes i))

abbrev pub i16_at : List ℕ → ℕ → ℤ
i16_at bytes i = cut_z 0x8000 (pos (u16_at bytes i))

infix 40 ◌=ℤ?◌
abbrev pub ◌=ℤ?◌ : ℤ → ℤ → Bool
pos a =ℤ? pos b = a =? b
pos a =ℤ? negsuc b = false
negsuc a =ℤ? pos b = false
negsuc a =ℤ? negsuc b = a =? b
