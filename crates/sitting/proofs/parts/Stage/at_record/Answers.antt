-- The record that stands there.
use Rattle.sitting.specs.Parts.{next_at}
use Rattle.sitting.proofs.Parting.{next_told}
use Rattle.sitting.proofs.parts.Stage.at_record.Goals as goal

pub returns-in-Ok-Some : goal.returns-in-Ok-Some
unfolding next_at
returns-in-Ok-Some c = next_told _ _ _ (rw c.in-Ok-Some.field-0-is at c.in-Ok-Some.ensures.0) c.played.ensures
