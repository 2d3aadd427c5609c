-- What a record of the interpolation must say.
use Rattle.std.specs.Prelude.{Bool, ◌&&◌, List, [], ◌∷◌, ℕ, ℤ, pos}
use Rattle.numbers.specs.Choice.{◌=?◌}
use Rattle.dsp.specs.Registers.{Written}
use Rattle.dsp.specs.declared.voice.Voice.{Voice}
use Rattle.replay.specs.Records.{u16_at, i16_at, ◌=ℤ?◌}
use Rattle.replay.specs.Machine.{zeros, steady, playback, playing, answered, sound_of}

abbrev pub voice_says : Voice → List ℕ → Bool
voice_says v r = v.current_sample =ℤ? i16_at r 10

abbrev pub sample_says : Written → List ℕ → Bool
sample_says a r = (a.refusal =? 0) && voice_says (sound_of a.dsp) r

-- the four samples, oldest first
abbrev pub history_of : List ℕ → List ℤ
history_of r = i16_at r 2 ∷ i16_at r 4 ∷ i16_at r 6 ∷ i16_at r 8 ∷ []

-- position, four samples, oldest first | sample
unfoldable pub interpolation_equal : List ℕ → Bool
interpolation_equal r =
    sample_says
    (answered (playing steady (playback 0 (pos 0) (pos 0) 16) (u16_at r 0) (history_of r)) zeros)
    r
