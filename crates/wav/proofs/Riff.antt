-- The header's sizes are those of RIFF's chunks, and no number of it is cut.
use mathlib.Core.List.{◌++◌}
use mathlib.Core.Path.{◌≡◌}
use Prim.Native.Nat.{zero, suc, ◌/◌, ◌^◌, ◌<◌}
use native.Mathlib.Nat.{pow-suc, pow-zero, div-lt_iff_lt-mul}
use native.Mathlib.Omega.{arith}
use lib.Dec.{lit<}
use lib.ListN.{length}
use Rattle.wav.specs.Wav.{in_bytes, RIFF, WAVE, fmt, data', format_size, data_size, riff_size, frames_in, header_of, wav_of}
use Rattle.wav.specs.Laws.{chunk, format, IsRiff, number_of, NumbersBack}
use Rattle.wav.proofs.Files.{sound_whole}

pub is_riff : IsRiff
unfolding wav_of header_of in_bytes
is_riff pcm s =
    let d : data_size (frames_in (length pcm)) ≡ length pcm = sound_whole (length pcm) s in
    let r : riff_size (frames_in (length pcm)) ≡ length (WAVE ++ chunk fmt format ++ chunk data' pcm) = omega arith in
    λ i. RIFF ++ in_bytes 4 (r i) ++ WAVE ++ fmt ++ in_bytes 4 format_size ++ format ++ data' ++ in_bytes 4 (d i) ++ pcm

pub numbers_back : NumbersBack
unfolding in_bytes number_of
numbers_back zero x h = let z = pow-zero 0x100 in omega arith
numbers_back (suc width) x h =
    let l : x / 0x100 < 0x100 ^ width = (div-lt_iff_lt-mul {k = 0x100} {x = x} {y = 0x100 ^ width} (lit< tt)).1 (rw pow-suc at h) in
    let e = numbers_back width (x / 0x100) l in
    omega arith
