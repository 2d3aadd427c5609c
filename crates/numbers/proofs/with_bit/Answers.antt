-- By the bit; the mask is a power of two below 256.
use Rattle.std.proofs.Common.{◌≡◌, ℕ, ◌%◌, ◌^◌, ◌<◌, mod-eq_of_lt, one-mul, arith}
use lib.Pow.{pow-lt}
use Rattle.numbers.proofs.Bits.{or_with, and_with_byte}
use Rattle.numbers.proofs.with_bit.Goals as goal

a_byte : (n : ℕ) → 2 ^ (n % 8) % 256 ≡ 2 ^ (n % 8)
a_byte n = let l : n % 8 < 8 = omega arith in mod-eq_of_lt (pow-lt l)

pub returns-then-on : goal.returns-then-on
returns-then-on c =
    let n = c.args.n in
    rw (c.if-on.true, one-mul, a_byte n) (or_with c.args.x (n % 8))

pub returns-else-on : goal.returns-else-on
returns-else-on c =
    let n = c.args.n in
    rw (c.if-on.false, one-mul, a_byte n) (and_with_byte c.args.x (n % 8) c.ranges.x.fits (omega arith))
