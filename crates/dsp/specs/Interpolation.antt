-- Interpolation: four samples weighed by four of the 512 weights.
use Rattle.std.specs.Prelude.{List, ℕ, ◌+◌, ◌-◌, ◌/◌, ◌%◌, ℤ, pos, ◌+ℤ◌, ◌*ℤ◌, get_or}
use Rattle.numbers.specs.Signed.{◌>>◌, clamp16_z, cut_z}
use Rattle.sound.specs.Gauss.{weight_at}

-- each tap is shifted by 11
abbrev pub tap_z : ℕ → ℤ → ℤ
tap_z i x = (weight_at i *ℤ x) >> 11

-- four samples, oldest first, at the index i of the fraction: the first three's sum is cut to 16 bits, the fourth added, the whole clamped
abbrev pub interpolate_at : ℕ → ℤ → ℤ → ℤ → ℤ → ℤ
interpolate_at i a b c d = clamp16_z (cut_z 0x8000 (tap_z (255 - i) a +ℤ tap_z (511 - i) b +ℤ tap_z (i + 256) c) +ℤ tap_z i d)

-- the index is bits 11-4 of the position
abbrev pub interpolate_z : ℕ → List ℤ → ℤ
interpolate_z position h = interpolate_at (position / 16 % 256) (get_or h 0 (pos 0)) (get_or h 1 (pos 0)) (get_or h 2 (pos 0)) (get_or h 3 (pos 0))
