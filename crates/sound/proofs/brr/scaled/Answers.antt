-- By the tests; the ranges are computed.
use mathlib.Core.Path.{◌≡◌}
use borrow.Author.Tests.{le-leb, lt-leb}
use mir.Syntax.{w32}
use mir.Val.{to_z, of_z}
use Rattle.numbers.specs.Signed.{cut_z}
use Rattle.numbers.proofs.Range.{fits, reads}
use Rattle.sound.proofs.Nibbles.{nibbles}
use Rattle.sound.proofs.brr.scaled.Goals as goal

pub overflow_mul-result : goal.overflow_mul-result
overflow_mul-result c = fits (search nibbles depth 9) tt

pub returns-then-shift-le12 : goal.returns-then-shift-le12
returns-then-shift-le12 c = rw (le-leb _ _ c.if-shift-le12.true) (reads (search nibbles depth 9) tt)

pub returns-then-n-lt0 : goal.returns-then-n-lt0
returns-then-n-lt0 c =
    let n_is : to_z w32 (of_z w32 c.cut4-n.result) ≡ cut_z 8 c.args.nibble = (reads (search nibbles depth 9) tt) in
    rw (lt-leb _ _ c.if-shift-le12.false, rw n_is at c.if-n-lt0.true)

pub returns-else-n-lt0 : goal.returns-else-n-lt0
returns-else-n-lt0 c =
    let n_is : to_z w32 (of_z w32 c.cut4-n.result) ≡ cut_z 8 c.args.nibble = (reads (search nibbles depth 9) tt) in
    rw (lt-leb _ _ c.if-shift-le12.false, rw n_is at c.if-n-lt0.false)
