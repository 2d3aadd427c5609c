-- Each voice is silenced.
use borrow.Author.Rules.{rules}
use Rattle.numbers.proofs.Maps.{mapped}
use Rattle.dsp.specs.Machine.{no_voice}
use Rattle.dsp.specs.Keys.{silenced}
use Rattle.dsp.proofs.registers.silence_all.Goals as goal

pub returns : goal.returns
returns c = mapped silenced no_voice (search rules) (λ p q x y h. search rules) c.map.ensures.items
