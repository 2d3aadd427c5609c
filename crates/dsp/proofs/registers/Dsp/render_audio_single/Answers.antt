-- The test gives the levels that the dry sum asks for.
use mathlib.Core.Path.{◌∙◌, sym}
use Rattle.dsp.proofs.Fits.{fit_facts}
use Rattle.dsp.proofs.registers.Dsp.render_audio_single.Goals as goal

pub dry-requires : goal.dry-requires
dry-requires c = let f = fit_facts _ (sym c.is_fit.ensures ∙ c.if-not-is_fit.false) in
    λ n. (f.voices n).1.1.0
