-- The ranges and the read-backs are computed.
use Rattle.numbers.proofs.Range.{fits, reads}
use Rattle.sound.proofs.Nibbles.{nibbles}
use Rattle.sound.proofs.brr.decode_brr_nibble.Goals as goal

pub overflow_add-s : goal.overflow_add-s
overflow_add-s c = fits (search nibbles depth 20) tt

pub overflow_mul-clamp16 : goal.overflow_mul-clamp16
overflow_mul-clamp16 c = fits (search nibbles depth 20) tt

pub overflow_cast-result : goal.overflow_cast-result
overflow_cast-result c = fits (search nibbles depth 20) tt

pub returns : goal.returns
returns c = reads (search nibbles depth 20) tt
