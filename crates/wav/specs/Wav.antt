-- Sound files of a sitting (document 02, W-201): "RIFF/WAVE, PCM, two channels, 16 bits, 32,000 frames a second, a 44-byte header, then
-- the samples. .. Every header field follows from the frame count."
use Rattle.std.specs.Prelude.{Bool, true, false, not, ◌&&◌, List, [], ◌∷◌, ◌++◌, ℕ, zero, suc, ◌+◌, ◌*◌, ◌/◌, ◌%◌, length, drop, Result, Ok, Err, if◌then◌else◌}
use Rattle.numbers.specs.Choice.{◌≤?◌, ◌=?◌}
use Rattle.refusal.specs.Refusal.{number}
use Rattle.refusal.specs.declared.Refusal.{Refusal}

-- ---- the header's fields

-- a number in so many bytes, low byte first
unfoldable pub in_bytes : ℕ → ℕ → List ℕ
in_bytes zero x = []
in_bytes (suc width) x = x % 0x100 ∷ in_bytes width (x / 0x100)

-- names, in ASCII
abbrev pub RIFF : List ℕ
RIFF = 0x52 ∷ 0x49 ∷ 0x46 ∷ 0x46 ∷ []

abbrev pub WAVE : List ℕ
WAVE = 0x57 ∷ 0x41 ∷ 0x56 ∷ 0x45 ∷ []

-- `fmt `, with a blank behind it
abbrev pub fmt : List ℕ
fmt = 0x66 ∷ 0x6D ∷ 0x74 ∷ 0x20 ∷ []

abbrev pub data' : List ℕ
data' = 0x64 ∷ 0x61 ∷ 0x74 ∷ 0x61 ∷ []

-- the bytes of the six fields of the format, from `PCM` to `bits_a_sample`
abbrev pub format_size : ℕ
format_size = 16

abbrev pub PCM : ℕ
PCM = 1

abbrev pub channels : ℕ
channels = 2

abbrev pub frames_a_second : ℕ
frames_a_second = 32000

abbrev pub bits_a_sample : ℕ
bits_a_sample = 16

-- a frame is a sample of each channel
abbrev pub bytes_a_frame : ℕ
bytes_a_frame = channels * bits_a_sample / 8

abbrev pub bytes_a_second : ℕ
bytes_a_second = frames_a_second * bytes_a_frame

-- the bytes of the samples
abbrev pub data_size : ℕ → ℕ
data_size frames = frames * bytes_a_frame

-- all bytes behind this field: 36 of the header, and the samples
abbrev pub riff_size : ℕ → ℕ
riff_size frames = 36 + data_size frames

unfoldable pub header_of : ℕ → List ℕ
unfolding in_bytes
header_of frames =
    RIFF ++ in_bytes 4 (riff_size frames) ++ WAVE
    ++ fmt ++ in_bytes 4 format_size ++ in_bytes 2 PCM ++ in_bytes 2 channels ++ in_bytes 4 frames_a_second ++ in_bytes 4 bytes_a_second
    ++ in_bytes 2 bytes_a_frame ++ in_bytes 2 bits_a_sample
    ++ data' ++ in_bytes 4 (data_size frames)

-- ---- a sound, and its file

abbrev pub frames_in : ℕ → ℕ
frames_in size = size / bytes_a_frame

-- whole frames, "at most 32,000" of them
abbrev pub is_sound : ℕ → Bool
is_sound size = (size % bytes_a_frame =? 0) && (frames_in size ≤? 32000)

abbrev pub header_size : ℕ
header_size = 44

unfoldable pub wav_of : List ℕ → List ℕ
unfolding header_of
wav_of pcm = header_of (frames_in (length pcm)) ++ pcm

-- ---- a file of this layout

unfoldable pub same_bytes : List ℕ → List ℕ → Bool
same_bytes [] [] = true
same_bytes [] (y ∷ ys) = false
same_bytes (x ∷ xs) [] = false
same_bytes (x ∷ xs) (y ∷ ys) = (x =? y) && same_bytes xs ys

-- what stands behind the header
abbrev pub samples_in : List ℕ → List ℕ
samples_in file = drop header_size file

-- "a reader for just that layout": a file is of it that is the file of the samples behind its own header
unfoldable pub is_wav : List ℕ → Bool
unfolding wav_of same_bytes
is_wav file = is_sound (length (samples_in file)) && same_bytes file (wav_of (samples_in file))

-- ---- what the writer, the reader and `wav_frames` leave: a refused call writes nothing and answers no frames

pub record Filed : Type 0 where
  pub refusal : ℕ
  pub file : List ℕ

-- "10 for samples that aren't whole frames or are too many, or a destination not of 44 bytes plus 4 per frame"
unfoldable pub filed_of : List ℕ → List ℕ → Filed
unfolding wav_of
filed_of pcm file =
    if not (is_sound (length pcm)) then record { refusal = 10; file = file } else
    if not (length file =? header_size + length pcm) then record { refusal = 10; file = file } else
    record { refusal = 0; file = wav_of pcm }

-- a file's frames; or its refusal, and no frames
pub record Frames : Type 0 where
  pub refusal : ℕ
  pub frames : ℕ

abbrev pub refused_by : ℕ → Frames
refused_by refusal = record { refusal = refusal; frames = 0 }

-- an answer of `wav_frames` or `read_wav`, in these words
abbrev pub frames_as : Result ℕ Refusal → Frames
frames_as (Ok n) = record { refusal = 0; frames = n }
frames_as (Err r) = refused_by (number r)

-- "13 for a file not of this layout"
unfoldable pub frames_of : List ℕ → Frames
unfolding is_wav
frames_of file =
    if not (is_wav file) then refused_by 13 else
    record { refusal = 0; frames = frames_in (length (samples_in file)) }

pub record Restored : Type 0 where
  pub frames : Frames
  pub pcm : List ℕ

-- "then 10 for its destination", which has 4 bytes a frame
unfoldable pub read_of : List ℕ → List ℕ → Restored
unfolding frames_of
read_of file pcm =
    if not ((frames_of file).refusal =? 0) then record { frames = frames_of file; pcm = pcm } else
    if not (length pcm =? data_size (frames_of file).frames) then record { frames = refused_by 10; pcm = pcm } else
    record { frames = frames_of file; pcm = samples_in file }
