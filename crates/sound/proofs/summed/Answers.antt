-- The ranges are computed.
use Rattle.numbers.proofs.Range.{fits, reads}
use Rattle.numbers.proofs.Clamp.{calls}
use Rattle.sound.proofs.summed.Goals as goal

pub overflow_cast-sum : goal.overflow_cast-sum
overflow_cast-sum c = fits (search calls depth 20) tt

pub overflow_add-sum : goal.overflow_add-sum
overflow_add-sum c = fits (search calls depth 20) tt

pub overflow_cast-result : goal.overflow_cast-result
overflow_cast-result c = fits (search calls depth 20) tt

pub returns : goal.returns
returns c = reads (search calls depth 20) tt
