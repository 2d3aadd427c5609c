-- Signed numbers: clamped, cut to some of their low bits, and taken apart into bytes.
use Rattle.std.specs.Prelude.{ℕ, zero, suc, ◌+◌, ◌-◌, ◌%◌, ◌^◌, ℤ, pos, negsuc, ◌-ℤ◌, if◌then◌else◌}
use Rattle.std.specs.Int.Signed.{shr_z}
use Rattle.numbers.specs.Choice.{◌<?◌, ◌<ℤ?◌}

-- the number n below zero
abbrev pub minus : ℕ → ℤ
minus zero = pos 0
minus (suc n) = negsuc n

abbrev pub neg : ℤ → ℤ
neg x = pos 0 -ℤ x

-- a number as a natural one, 0 where it is negative
abbrev pub natural : ℤ → ℕ
natural (pos a) = a
natural (negsuc a) = 0

-- a shift rounds down
infix 45 ◌>>◌
abbrev pub ◌>>◌ : ℤ → ℕ → ℤ
x >> k = shr_z x (2 ^ k)

-- x kept between lo and hi
abbrev pub clamp_z : ℤ → ℤ → ℤ → ℤ
clamp_z lo hi x =
    if x <ℤ? lo then lo else
    if hi <ℤ? x then hi else
    x

-- clamped to 16 bits
abbrev pub clamp16_z : ℤ → ℤ
clamp16_z x = clamp_z (minus 0x8000) (pos 0x7FFF) x

-- the remainder by m, from 0 to m - 1 for a negative number too
abbrev pub mod_z : ℤ → ℕ → ℕ
mod_z (pos a) m = a % m
mod_z (negsuc a) m = m - suc (a % m)

-- m, below 2h, read as a signed number from -h to h - 1
abbrev pub signed_at : ℕ → ℕ → ℤ
signed_at h m =
    if m <? h then pos m else
    minus (h + h - m)

-- x cut to the numbers from -h to h - 1, two's complement. To 16 bits: h is 0x8000; to 8 bits 0x80; to 4 bits 8
abbrev pub cut_z : ℕ → ℤ → ℤ
cut_z h x = signed_at h (mod_z x (h + h))

-- the low byte and the high byte of 16 bits
abbrev pub low_z : ℤ → ℕ
low_z x = mod_z x 0x100

abbrev pub high_z : ℤ → ℕ
high_z x = mod_z (x >> 8) 0x100
