-- After i turns the local holds the bits of i taps' sum, which is small enough to add one more.
use mathlib.Core.Path.{◌≡◌}
use Prim.Native.Nat.{◌≤◌, ◌*◌}
use lib.Signed.{mag}
use Rattle.sound.specs.Sound.{fir_sum}
use Rattle.sound.proofs.fir_sum.Given as goal

abbrev pub invariant-loop-i : goal.invariant-loop-i
invariant-loop-i l = (l.i ≤ 7) × (mag (fir_sum l.h l.taps l.i) ≤ l.i * 65537) × (l.sum ≡ fir_sum l.h l.taps l.i)
