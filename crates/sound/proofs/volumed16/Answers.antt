-- The ranges are computed.
use Rattle.numbers.proofs.Range.{fits, reads}
use Rattle.numbers.proofs.Clamp.{calls}
use Rattle.sound.proofs.volumed16.Goals as goal

pub overflow_cast-result : goal.overflow_cast-result
overflow_cast-result c = fits (search calls depth 20) tt

pub returns : goal.returns
returns c = reads (search calls depth 20) tt
