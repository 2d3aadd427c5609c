-- By the end flag.
use mathlib.Core.Path.{◌∙◌}
use Rattle.dsp.specs.Voice.{next_address}
use Rattle.dsp.proofs.Blocks.{word_wraps}
use Rattle.dsp.proofs.play.Feed.next_address.Goals as goal

pub returns-then-self : goal.returns-then-self
unfolding next_address
returns-then-self c p samples = rw c.if-self.true (c.read_le16.ensures ∙ rw c.wrapping_add16-entry.ensures (word_wraps _ _ _))

pub returns-else-self : goal.returns-else-self
unfolding next_address
returns-else-self c p samples = rw c.if-self.false c.wrapping_add16.ensures
