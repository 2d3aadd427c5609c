-- Each element is that of the voice.
use borrow.Author.Rules.{rules}
use Rattle.numbers.proofs.Maps.{mapped}
use Rattle.dsp.specs.Machine.{no_voice}
use Rattle.dsp.specs.Inside.{feed_of}
use Rattle.dsp.proofs.tick.feeds_of.Goals as goal

pub returns : goal.returns
returns c = mapped (λ v. feed_of v.brr) no_voice (search rules) (λ p q x y h. search rules) c.map.ensures.items
