-- The table, entry by entry.
use mathlib.Core.Path.{refl}
use Rattle.sound.specs.Gauss.{weights}
use Rattle.sound.proofs.gauss.gauss_table.Goals as goal

pub returns : goal.returns
unfolding weights
returns c = refl
