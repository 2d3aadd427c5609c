-- The filter's sum: each tap gives at most 65,536, so that n of them stay within n · 65,537.
use mathlib.Core.List.{List}
use mathlib.Core.Path.{◌≡◌, refl}
use Prim.Native.Nat.{ℕ, suc, ◌*◌, ◌≤◌, ◌<◌}
use native.Mathlib.Omega.{arith}
use lib.IntN.{ℤ, pos}
use lib.ListN.{get_or}
use lib.Signed.{mag}
use mir.Syntax.{w8, w16}
use mir.Val.{to_z, of_z}
use Rattle.numbers.proofs.Range.{Q, q_is, q_by, q_mul, q_shr, q_read, q_elem16, q_mag, add_law}
use Rattle.sound.specs.Sound.{fir_tap, fir_sum}

-- what a call gives for sample and tap n, as the machine reads them
abbrev pub q_tapped : (h taps : List ℤ) (n : ℕ) {r : ℤ} → r ≡ fir_tap (to_z w16 (of_z w16 (get_or h n (pos 0)))) (to_z w8 (of_z w8 (get_or taps n (pos 0))))
    → mag (get_or h n (pos 0)) < 0x8000 → mag (get_or taps n (pos 0)) < 0x80 → Q r
q_tapped h taps n e p q = q_by e (q_shr 64 (q_mul (q_read w16 (q_elem16 (get_or h n (pos 0)) p)) (q_read w8 (q_mag 0x80 (get_or taps n (pos 0)) q))))

pub sum_grows : (h taps : List ℤ) (n : ℕ) → mag (fir_sum h taps n) ≤ n * 65537
    → mag (fir_tap (get_or h n (pos 0)) (get_or taps n (pos 0))) ≤ 65536 → mag (fir_sum h taps (suc n)) ≤ suc n * 65537
unfolding fir_sum
sum_grows h taps n p q = omega (arith, add_law (fir_sum h taps n) (fir_tap (get_or h n (pos 0)) (get_or taps n (pos 0))) (n * 65537) 65536 p q tt)

abbrev pub q_sum : (h taps : List ℤ) (n : ℕ) → n ≤ 7 → mag (fir_sum h taps n) ≤ n * 65537 → Q (fir_sum h taps n)
q_sum h taps n l p = q_is (fir_sum h taps n) (7 * 65537) refl (omega arith)
