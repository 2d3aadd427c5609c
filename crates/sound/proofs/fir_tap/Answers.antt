-- The ranges are computed.
use Rattle.numbers.proofs.Range.{fits, reads, quotes}
use Rattle.sound.proofs.fir_tap.Goals as goal

pub overflow_cast-result : goal.overflow_cast-result
overflow_cast-result c = fits (search quotes) tt

pub overflow_cast-result-2 : goal.overflow_cast-result-2
overflow_cast-result-2 c = fits (search quotes) tt

pub overflow_mul-result : goal.overflow_mul-result
overflow_mul-result c = fits (search quotes) tt

pub returns : goal.returns
returns c = reads (search quotes depth 9) tt
