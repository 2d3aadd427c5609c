-- The sums, with the read-backs removed.
use borrow.Author.Rules.{rules}
use mir.Syntax.{w16}
use mir.Facts.{to_z-of_z}
use Rattle.numbers.proofs.Range.{landed}
use Rattle.dsp.specs.Mix.{with_voice}
use Rattle.dsp.specs.Lane.{added}
use Rattle.dsp.proofs.lane.Acc.added.Goals as goal

pub returns-then-echo : goal.returns-then-echo
unfolding added with_voice
returns-then-echo c = let f = c.ranges in
    rw (
      c.if-echo.true,
      landed w16 c.even.type_inv,
      landed w16 c.summed.type_inv,
      landed w16 c.summed-then-echo.type_inv,
      landed w16 c.summed-then-echo-2.type_inv,
      landed w16 c.summed-then-echo-3.type_inv,
      c.even.ensures,
      c.summed.ensures,
      c.summed-then-echo.ensures,
      c.summed-then-echo-2.ensures,
      c.summed-then-echo-3.ensures,
      to_z-of_z f.out,
      to_z-of_z f.left,
      to_z-of_z f.right,
    )
    (search rules)

pub returns-else-echo : goal.returns-else-echo
unfolding added with_voice
returns-else-echo c = let f = c.ranges in
    rw (
      c.if-echo.false,
      landed w16 c.even-else-echo.type_inv,
      landed w16 c.summed-else-echo.type_inv,
      landed w16 c.summed-else-echo-2.type_inv,
      c.even-else-echo.ensures,
      c.summed-else-echo.ensures,
      c.summed-else-echo-2.ensures,
      to_z-of_z f.out,
      to_z-of_z f.left,
      to_z-of_z f.right,
    )
    (search rules)
