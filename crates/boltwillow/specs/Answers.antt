-- What a caller in C gets of a run, of a rework and of a sound file: a number, and the lent slices.
use Rattle.std.specs.Prelude.{List, ℕ, ◌+◌, ◌*◌}
use Rattle.dsp.specs.Run.{Outcome}
use Rattle.rework.specs.Rework.{Left}
use Rattle.wav.specs.Wav.{Restored}
use Rattle.wav.specs.Wav.{Frames}

pub record PlayedOut : Type 0 where
  pub refusal : ℕ
  pub ram : List ℕ
  pub pcm : List ℕ
  pub sheet : List ℕ
  pub readings : List ℕ

abbrev pub played_of : Outcome → PlayedOut
played_of o = record { refusal = o.refusal; ram = o.ram; pcm = o.pcm; sheet = o.sheet; readings = o.readings }

pub record Reworked : Type 0 where
  pub answer : ℕ
  pub pcm : List ℕ
  pub sheet : List ℕ
  pub readings : List ℕ

-- in one number: the refusal, the set A above it, and above that the number of voices in A
abbrev pub in_one : Left → ℕ
in_one x = x.refusal + 0x100 * x.members + 0x10000 * x.count

abbrev pub reworked_of : Left → Reworked
reworked_of x = record { answer = in_one x; pcm = x.pcm; sheet = x.sheet; readings = x.readings }

-- in one number: the refusal, and above it the frames
abbrev pub frames_answer : Frames → ℕ
frames_answer f = f.refusal + 0x100 * f.frames

pub record ReadOut : Type 0 where
  pub answer : ℕ
  pub pcm : List ℕ

abbrev pub restored_of : Restored → ReadOut
restored_of x = record { answer = frames_answer x.frames; pcm = x.pcm }
