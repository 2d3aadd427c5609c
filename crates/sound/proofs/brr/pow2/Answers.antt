-- A power up to 4096.
use Rattle.numbers.proofs.Range.{fits, quotes}
use Rattle.sound.proofs.Nibbles.{pow_small, pow_reads, q_pow2}
use Rattle.sound.proofs.brr.pow2.Goals as goal

pub overflow_cast-result-2 : goal.overflow_cast-result-2
overflow_cast-result-2 c = rw (pow_small c.args.shift c.requires) (fits (search (q_pow2, quotes)) tt)

pub returns : goal.returns
returns c = rw (pow_small c.args.shift c.requires) (pow_reads c.args.shift c.requires)
