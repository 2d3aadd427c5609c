-- After i bytes the first 2 · i samples stand; `whole` says that 16 are the block.
use borrow.Author.Rules.{rules}
use mathlib.Core.Path.{◌≡◌, ◌∙◌}
use Prim.Native.Nat.{◌*◌}
use native.Mathlib.Omega.{arith}
use mir.Syntax.{w16}
use mir.Facts.{to_z-of_z}
use Rattle.numbers.proofs.Range.{landed}
use Rattle.dsp.proofs.Blocks.{none, two_more, whole}
use Rattle.dsp.proofs.brr.decode_brr_block.Goals as goal

pub loop-i-init : goal.loop-i-init
loop-i-init c = (search rules, none _ _ _ _ _ (search rules))

pub loop-i-preserved : goal.loop-i-preserved
loop-i-preserved c = let l = c.loop-i in
    let e₁ = landed w16 c.sample_of-s0.type_inv ∙ c.sample_of-s0.ensures in
    let e₂ = landed w16 c.sample_of-s1.type_inv ∙ c.sample_of-s1.ensures in
    (search rules, two_more _ _ _ _ _ _ _ _ _ _ _ _ (search rules) c.ram_read8-header.ensures c.ram_read8-byte.ensures l.invariant.1 e₁ e₂)

pub returns : goal.returns
returns c = let l = c.loop-i in
    let f = c.ranges in
    let n : l.i * 2 ≡ 16 = omega arith in
    rw (← to_z-of_z f.prev1, ← to_z-of_z f.prev2) (whole _ _ _ _ _ _ _ _ _ n c.ram_read8-header.ensures l.invariant.1)
