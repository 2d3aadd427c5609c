-- One header byte by byte, and files that are not of this layout, all computed.
use mathlib.Core.Bool.{true, false}
use mathlib.Core.List.{List, [], ◌∷◌, ◌++◌}
use mathlib.Core.Path.{◌≡◌, refl}
use Prim.Native.Nat.{ℕ, ◌+◌}
use lib.ListN.{take, drop, length}
use Rattle.wav.specs.Wav.{in_bytes, data_size, header_of, wav_of, same_bytes, is_wav}

-- a header of one frame: sizes 40 and 4
pub of_one_frame : header_of 1 ≡
    0x52 ∷ 0x49 ∷ 0x46 ∷ 0x46 ∷ 0x28 ∷ 0x00 ∷ 0x00 ∷ 0x00 ∷ 0x57 ∷ 0x41 ∷ 0x56 ∷ 0x45 ∷ 0x66 ∷ 0x6D ∷ 0x74 ∷ 0x20
    ∷ 0x10 ∷ 0x00 ∷ 0x00 ∷ 0x00 ∷ 0x01 ∷ 0x00 ∷ 0x02 ∷ 0x00 ∷ 0x00 ∷ 0x7D ∷ 0x00 ∷ 0x00 ∷ 0x00 ∷ 0xF4 ∷ 0x01 ∷ 0x00
    ∷ 0x04 ∷ 0x00 ∷ 0x10 ∷ 0x00 ∷ 0x64 ∷ 0x61 ∷ 0x74 ∷ 0x61 ∷ 0x04 ∷ 0x00 ∷ 0x00 ∷ 0x00 ∷ []
unfolding header_of
of_one_frame = refl

abbrev frame : List ℕ
frame = 0x34 ∷ 0x12 ∷ 0xFE ∷ 0xFF ∷ []

-- its file, with other bytes from a place on
abbrev put : ℕ → List ℕ → List ℕ
put at bytes = take at (wav_of frame) ++ bytes ++ drop (at + length bytes) (wav_of frame)

-- other samples are another sound
pub other_samples : is_wav (put 44 (0x35 ∷ [])) ≡ true
unfolding is_wav wav_of header_of in_bytes same_bytes
other_samples = refl

pub no_tail : is_wav (wav_of frame ++ (0 ∷ [])) ≡ false
unfolding is_wav wav_of header_of in_bytes same_bytes
no_tail = refl

pub no_frame-behind : is_wav (wav_of frame ++ frame) ≡ false
unfolding is_wav wav_of header_of in_bytes same_bytes
no_frame-behind = refl

pub no_other_first_size : is_wav (put 4 (in_bytes 4 (data_size 1))) ≡ false
unfolding is_wav wav_of header_of in_bytes same_bytes
no_other_first_size = refl

pub no_other_second_size : is_wav (put 40 (in_bytes 4 (data_size 0))) ≡ false
unfolding is_wav wav_of header_of in_bytes same_bytes
no_other_second_size = refl

pub no_one_channel : is_wav (put 28 (in_bytes 4 64000)) ≡ false
unfolding is_wav wav_of header_of in_bytes same_bytes
no_one_channel = refl
