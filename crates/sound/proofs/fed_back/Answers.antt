-- The ranges are computed; the last call's result is bounded by its type.
use mir.Syntax.{w16}
use Rattle.numbers.proofs.Range.{fits, reads, q_call, q_read}
use Rattle.numbers.proofs.Clamp.{calls}
use Rattle.sound.proofs.fed_back.Goals as goal

pub overflow_cast-input : goal.overflow_cast-input
overflow_cast-input c = fits (search calls depth 20) tt

pub overflow_cast-b : goal.overflow_cast-b
overflow_cast-b c = fits (search calls depth 20) tt

pub overflow_add-input : goal.overflow_add-input
overflow_add-input c = fits (search calls depth 20) tt

pub overflow_cast-clamp16 : goal.overflow_cast-clamp16
overflow_cast-clamp16 c = fits (search calls depth 20) tt

pub returns : goal.returns
returns c = reads (q_read w16 (q_call 0x8000 c.even.ensures c.even.type_inv (search calls depth 20))) tt
