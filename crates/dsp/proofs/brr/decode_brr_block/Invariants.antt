-- After i bytes the first 2 · i samples stand; `whole` says that 16 are the block.
use Prim.Native.Nat.{◌≤◌, ◌*◌}
use Rattle.dsp.proofs.Blocks.{UpTo}
use Rattle.dsp.proofs.brr.decode_brr_block.Given as goal

abbrev pub invariant-loop-i : goal.invariant-loop-i
invariant-loop-i l =
    (l.i ≤ 8) × UpTo l.ram l.addr l.prev1 l.prev2 (l.i * 2) l.samples l.p1 l.p2
