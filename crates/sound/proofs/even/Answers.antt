-- The ranges are computed.
use Rattle.numbers.proofs.Range.{fits, reads, quotes, q_times}
use Rattle.sound.proofs.even.Goals as goal

pub overflow_mul-result : goal.overflow_mul-result
overflow_mul-result c = fits (search (q_times, quotes) depth 20) tt

pub returns : goal.returns
returns c = reads (search (q_times, quotes) depth 20) tt
