-- Each dial is that of the voice, which is fit.
use borrow.Author.Rules.{rules}
use lib.ListN.{get_or}
use Rattle.numbers.proofs.Maps.{mapped}
use Rattle.dsp.specs.Machine.{no_voice}
use Rattle.dsp.specs.Inside.{dial_of}
use Rattle.dsp.proofs.Arrays.{callable}
use Rattle.dsp.proofs.Fits.{adsr_fit}
use Rattle.dsp.proofs.tick.dials_of.Goals as goal

pub map-requires : goal.map-requires
map-requires c = (search rules, (search rules, (search rules, callable no_voice _ c.args.voices (λ x q r. search rules) (λ i. let f = adsr_fit (get_or c.args.voices i no_voice) (c.requires i) in search rules))))

pub returns : goal.returns
returns c = mapped dial_of no_voice (search rules) (λ p q x y h. search rules) c.map.ensures.items
