-- The table, entry by entry.
use mathlib.Core.Path.{refl}
use Rattle.sound.specs.Clock.{periods}
use Rattle.sound.proofs.adsr.rate_table.Goals as goal

pub returns : goal.returns
unfolding periods
returns c = refl
