-- The ranges are computed.
use Rattle.numbers.proofs.Range.{fits, reads}
use Rattle.numbers.proofs.Clamp.{calls}
use Rattle.sound.proofs.mastered.Goals as goal

pub overflow_cast-a : goal.overflow_cast-a
overflow_cast-a c = fits (search calls depth 20) tt

pub overflow_cast-b : goal.overflow_cast-b
overflow_cast-b c = fits (search calls depth 20) tt

pub overflow_add-a : goal.overflow_add-a
overflow_add-a c = fits (search calls depth 20) tt

pub overflow_cast-result : goal.overflow_cast-result
overflow_cast-result c = fits (search calls depth 20) tt

pub returns : goal.returns
returns c = reads (search calls depth 20) tt
