-- The chip's formulas on samples and volumes: products, sums, the echo's filter.
use Rattle.std.specs.Prelude.{List, ℕ, zero, suc, ◌+◌, ◌*◌, ℤ, pos, ◌+ℤ◌, ◌*ℤ◌, get_or}
use Rattle.numbers.specs.Signed.{◌>>◌, clamp16_z, cut_z}

abbrev pub to16 : ℤ → ℤ
to16 x = cut_z 0x8000 x

-- bit 0 cleared
abbrev pub even : ℤ → ℤ
even x = pos 2 *ℤ (x >> 1)

-- two bytes, low byte first, as a 16-bit sample
abbrev pub joined : ℕ → ℕ → ℤ
joined lo hi = to16 (pos (lo + 0x100 * hi))

-- sample × level >> 11
abbrev pub levelled_z : ℤ → ℕ → ℤ
levelled_z x level = (x *ℤ pos level) >> 11

-- voice volume, master, echo volume and feedback products shift by 7
abbrev pub volumed : ℤ → ℤ → ℤ
volumed x volume = (x *ℤ volume) >> 7

-- a sum that clamps after each voice
abbrev pub summed : ℤ → ℤ → ℤ → ℤ
summed sum x volume = clamp16_z (sum +ℤ volumed x volume)

-- dry by master volume and echo by echo volume, each cut to 16 bits before their sum, which is clamped
abbrev pub mastered : ℤ → ℤ → ℤ → ℤ → ℤ
mastered dry master echo volume = clamp16_z (to16 (volumed dry master) +ℤ to16 (volumed echo volume))

-- echo input plus feedback, clamped, bit 0 cleared
abbrev pub fed_back : ℤ → ℤ → ℤ → ℤ
fed_back input echo feedback = even (clamp16_z (input +ℤ to16 (volumed echo feedback)))

-- FIR: history times tap, >> 6
abbrev pub fir_tap : ℤ → ℤ → ℤ
fir_tap x tap = (x *ℤ tap) >> 6

-- the first n taps summed, tap 0 with the oldest
unfoldable pub fir_sum : List ℤ → List ℤ → ℕ → ℤ
fir_sum history taps zero = pos 0
fir_sum history taps (suc n) = fir_sum history taps n +ℤ fir_tap (get_or history n (pos 0)) (get_or taps n (pos 0))

-- seven summed, cut to 16 bits; the eighth cut, added; clamp; clear bit 0
unfoldable pub fir_of : List ℤ → List ℤ → ℤ
fir_of history taps = even (clamp16_z (to16 (fir_sum history taps 7) +ℤ to16 (fir_tap (get_or history 7 (pos 0)) (get_or taps 7 (pos 0)))))
