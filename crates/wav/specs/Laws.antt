-- What is proved about the definitions of `Wav`, and so about every file that is written or read.
use Rattle.std.specs.Prelude.{true, List, [], ◌∷◌, ◌++◌, ◌≡◌, ℕ, ◌+◌, ◌*◌, ◌^◌, ◌≤◌, ◌<◌, length}
use Rattle.wav.specs.Wav.{in_bytes, RIFF, WAVE, fmt, data', PCM, channels, frames_a_second, bytes_a_second, bytes_a_frame, bits_a_sample, is_sound, wav_of, samples_in, is_wav, filed_of, refused_by, read_of}

-- "a file put back gives the same frames": no sound of 0 to 32,000 frames is refused, and reading what was written gives it back
abbrev pub ReadsBack : Type 0
ReadsBack = (frames : ℕ) → frames ≤ 32000 → (pcm file to : List ℕ) → length pcm ≡ frames * 4 → length file ≡ 44 + frames * 4 → length to ≡ frames * 4
    → ((filed_of pcm file).refusal ≡ 0) × (read_of (filed_of pcm file).file to ≡ record { frames = record { refusal = 0; frames = frames }; pcm = pcm })

-- writing what was read gives the same file
abbrev pub WritesBack : Type 0
WritesBack = (file pcm to : List ℕ) → (read_of file pcm).frames.refusal ≡ 0 → length to ≡ length file
    → filed_of (read_of file pcm).pcm to ≡ record { refusal = 0; file = file }

-- so each sound has one file
abbrev pub OneFile : Type 0
OneFile = (file₁ file₂ : List ℕ) → is_wav file₁ ≡ true → is_wav file₂ ≡ true → samples_in file₁ ≡ samples_in file₂ → file₁ ≡ file₂

-- a file of some sound
pub record FileOfSound (file : List ℕ) : Type 0 where
  pub pcm : List ℕ
  pub sound : is_sound (length pcm) ≡ true
  pub is : file ≡ wav_of pcm

-- the test `is_wav` says just that
abbrev pub TellsFiles : Type 0
TellsFiles = (file : List ℕ) → (is_wav file ≡ true → FileOfSound file) × (FileOfSound file → is_wav file ≡ true)

-- "zero frames is a valid file"
abbrev pub NoFrames : Type 0
NoFrames = (is_wav (wav_of []) ≡ true) × (length (wav_of []) ≡ 44)

-- a refusal leaves the file, or the destination, and answers no frames
abbrev pub Refuses : Type 0
Refuses = ((pcm file : List ℕ) → ((filed_of pcm file).refusal ≡ 0 → ⊥) → filed_of pcm file ≡ record { refusal = 10; file = file })
    × ((file pcm : List ℕ) → (k : ℕ) → (read_of file pcm).frames.refusal ≡ k → (k ≡ 0 → ⊥) → read_of file pcm ≡ record { frames = refused_by k; pcm = pcm })

-- ---- that the header's sizes are RIFF's own: a chunk is its name, its size and its bytes

abbrev pub chunk : List ℕ → List ℕ → List ℕ
chunk name bytes = name ++ in_bytes 4 (length bytes) ++ bytes

abbrev pub format : List ℕ
format = in_bytes 2 PCM ++ in_bytes 2 channels ++ in_bytes 4 frames_a_second ++ in_bytes 4 bytes_a_second ++ in_bytes 2 bytes_a_frame ++ in_bytes 2 bits_a_sample

abbrev pub IsRiff : Type 0
IsRiff = (pcm : List ℕ) → is_sound (length pcm) ≡ true → wav_of pcm ≡ chunk RIFF (WAVE ++ chunk fmt format ++ chunk data' pcm)

-- ---- that no number of a field is cut

-- bytes as a number, low byte first
unfoldable pub number_of : List ℕ → ℕ
number_of [] = 0
number_of (b ∷ bs) = b + 0x100 * number_of bs

abbrev pub NumbersBack : Type 0
NumbersBack = (width x : ℕ) → x < 0x100 ^ width → number_of (in_bytes width x) ≡ x
