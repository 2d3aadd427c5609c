-- By the filter; the ranges are computed.
use mathlib.Core.Path.{◌≡◌}
use Prim.Native.Nat.{◌%◌}
use native.Mathlib.Omega.{arith}
use Rattle.numbers.proofs.Range.{quotes, fits, reads}
use Rattle.sound.proofs.brr.brr_filter.Goals as goal

pub overflow_cast-a : goal.overflow_cast-a
overflow_cast-a c = fits (search quotes depth 20) tt

pub overflow_cast-b : goal.overflow_cast-b
overflow_cast-b c = fits (search quotes depth 20) tt

pub overflow_sub-result : goal.overflow_sub-result
overflow_sub-result c = fits (search quotes depth 20) tt

pub overflow_add-result : goal.overflow_add-result
overflow_add-result c = fits (search quotes depth 20) tt

pub overflow_mul-result : goal.overflow_mul-result
overflow_mul-result c = fits (search quotes depth 20) tt

pub overflow_mul-result-in-2 : goal.overflow_mul-result-in-2
overflow_mul-result-in-2 c = fits (search quotes depth 20) tt

pub overflow_sub-result-in-2 : goal.overflow_sub-result-in-2
overflow_sub-result-in-2 c = fits (search quotes depth 20) tt

pub overflow_add-result-in-2 : goal.overflow_add-result-in-2
overflow_add-result-in-2 c = fits (search quotes depth 20) tt

pub overflow_sub-result-in-2-2 : goal.overflow_sub-result-in-2-2
overflow_sub-result-in-2-2 c = fits (search quotes depth 20) tt

pub overflow_add-result-in-2-2 : goal.overflow_add-result-in-2-2
overflow_add-result-in-2-2 c = fits (search quotes depth 20) tt

pub overflow_mul-result-in_default : goal.overflow_mul-result-in_default
overflow_mul-result-in_default c = fits (search quotes depth 20) tt

pub overflow_mul-result-in_default-2 : goal.overflow_mul-result-in_default-2
overflow_mul-result-in_default-2 c = fits (search quotes depth 20) tt

pub overflow_sub-result-in_default : goal.overflow_sub-result-in_default
overflow_sub-result-in_default c = fits (search quotes depth 20) tt

pub overflow_add-result-in_default : goal.overflow_add-result-in_default
overflow_add-result-in_default c = fits (search quotes depth 20) tt

pub overflow_sub-result-in_default-2 : goal.overflow_sub-result-in_default-2
overflow_sub-result-in_default-2 c = fits (search quotes depth 20) tt

pub overflow_mul-result-in_default-3 : goal.overflow_mul-result-in_default-3
overflow_mul-result-in_default-3 c = fits (search quotes depth 20) tt

pub overflow_add-result-in_default-2 : goal.overflow_add-result-in_default-2
overflow_add-result-in_default-2 c = fits (search quotes depth 20) tt

pub returns-in-0 : goal.returns-in-0
returns-in-0 c = rw c.in-0.is

pub returns-in-1 : goal.returns-in-1
returns-in-1 c = rw c.in-1.is (reads (search quotes depth 20) tt)

pub returns-in-2 : goal.returns-in-2
returns-in-2 c = rw c.in-2.is (reads (search quotes depth 20) tt)

pub returns-in_default : goal.returns-in_default
returns-in_default c = let e : c.args.filter % 4 ≡ 3 = omega (arith, c.in_default.in_default-own.rest) in
    rw e (reads (search quotes depth 20) tt)
