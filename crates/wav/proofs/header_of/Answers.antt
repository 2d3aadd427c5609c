-- Field by field.
use mathlib.Core.Path.{refl}
use lib.ListN.{replicate}
use Rattle.numbers.proofs.Parts.{unwritten, part-put, all_written}
use Rattle.wav.specs.Wav.{in_bytes, RIFF, riff_size, WAVE, fmt, format_size, PCM, channels, frames_a_second, bytes_a_second, bytes_a_frame, bits_a_sample, data', data_size, header_of}
use Rattle.wav.proofs.Numbers.{field}
use Rattle.wav.proofs.header_of.Goals as goal

pub returns : goal.returns
unfolding header_of in_bytes
returns c = let n = c.args.frames in
    let w1 = part-put (unwritten (replicate 44 0)) 4 RIFF c.put.ensures refl in
    let w2 = field w1 4 (in_bytes 4 (riff_size n)) c.put-2.ensures c.in_four.ensures refl in
    let w3 = part-put w2 4 WAVE c.put-3.ensures refl in
    let w4 = part-put w3 4 fmt c.put-4.ensures refl in
    let w5 = field w4 4 (in_bytes 4 format_size) c.put-5.ensures c.in_four-2.ensures refl in
    let w6 = field w5 2 (in_bytes 2 PCM) c.put-6.ensures c.to_le_bytes.ensures refl in
    let w7 = field w6 2 (in_bytes 2 channels) c.put-7.ensures c.to_le_bytes-2.ensures refl in
    let w8 = field w7 4 (in_bytes 4 frames_a_second) c.put-8.ensures c.in_four-3.ensures refl in
    let w9 = field w8 4 (in_bytes 4 bytes_a_second) c.put-9.ensures c.in_four-4.ensures refl in
    let w10 = field w9 2 (in_bytes 2 bytes_a_frame) c.put-10.ensures c.to_le_bytes-3.ensures refl in
    let w11 = field w10 2 (in_bytes 2 bits_a_sample) c.put-11.ensures c.to_le_bytes-4.ensures refl in
    let w12 = part-put w11 4 data' c.put-12.ensures refl in
    let w13 = field w12 4 (in_bytes 4 (data_size n)) c.put-13.ensures c.in_four-5.ensures refl in
    all_written w13 refl
