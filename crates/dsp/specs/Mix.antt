-- Outputs and sums: what a voice gives, the dry sum, and the stereo sample.
use Rattle.std.specs.Prelude.{◌||◌, List, ℕ, ℤ, pos, Result, Ok, Err, if◌then◌else◌}
use Rattle.numbers.specs.Bits.{bit}
use Rattle.sound.specs.Sound.{levelled_z, summed, mastered}
use Rattle.numbers.specs.Listed.{folded}
use Rattle.dsp.specs.Machine.{Globals, globals_of}
use Rattle.dsp.specs.Envelope.{is_off}
use Rattle.dsp.specs.Fit.{fit}
use Rattle.dsp.specs.declared.adsr.EnvelopePhase.{EnvelopePhase}
use Rattle.dsp.specs.declared.voice.Voice.{Voice}
use Rattle.dsp.specs.declared.registers.Dsp.{Dsp}
use Rattle.dsp.specs.declared.mix.Sample.{Sample}
use Rattle.refusal.specs.Refusal.{number}
use Rattle.refusal.specs.declared.Refusal.{Refusal}

-- scaled output: sample × level >> 11, or 0 in phase Off
unfoldable pub scaled_output : EnvelopePhase → ℕ → ℤ → ℤ
scaled_output phase level sample =
    if is_off phase then pos 0 else
    levelled_z sample level

abbrev pub output_of : Voice → ℤ
output_of v = scaled_output v.adsr.envelope_phase v.adsr.envelope_level v.current_sample

-- left and right
pub record Stereo : Type 0 where
  pub l : ℤ
  pub r : ℤ

abbrev pub silent : Stereo
silent = record { l = pos 0; r = pos 0 }

-- an output by a voice's two volumes, added to both sums, each clamped
unfoldable pub with_voice : ℤ → ℤ → ℤ → Stereo → Stereo
with_voice out left right s = record { l = summed s.l out left; r = summed s.r out right }

abbrev pub with_output : Stereo → Voice → Stereo
with_output s v = with_voice (output_of v) v.left_vol v.right_vol s

-- voice after voice
unfoldable pub dry_of : List Voice → Stereo
dry_of vs = folded with_output silent vs

-- with FLG bit 6 or 7 the stereo sample is 0, 0
unfoldable pub master_of : Globals → Stereo → Stereo
master_of g dry =
    if bit g.flg 6 || bit g.flg 7 then silent else
    record {
      l = mastered dry.l g.master_vol_left g.echo_out_l g.echo_vol_left;
      r = mastered dry.r g.master_vol_right g.echo_out_r g.echo_vol_right;
    }

-- ---- the public render

pub record Rendered : Type 0 where
  pub refusal : ℕ
  pub left : ℤ
  pub right : ℤ

-- an answer of `render_audio_single`, in these words
abbrev pub rendered : Result Sample Refusal → Rendered
rendered (Ok s) = record { refusal = 0; left = s.left; right = s.right }
rendered (Err r) = record { refusal = number r; left = pos 0; right = pos 0 }

unfoldable pub render_of : Dsp → Rendered
render_of d =
    if fit d then record { refusal = 0; left = (master_of (globals_of d) (dry_of d.voices)).l; right = (master_of (globals_of d) (dry_of d.voices)).r } else
    record { refusal = 2; left = pos 0; right = pos 0 }
