-- The modulated pitch is never negative, and at most twice the base; the position that it moves never goes back, and passes at most seven samples.
use mathlib.Core.Path.{◌≡◌, refl}
use Prim.Native.Nat.{ℕ, zero, suc, ◌+◌, ◌*◌, ◌-◌, ◌/◌, ◌%◌, ◌≤◌, ◌<◌}
use native.Mathlib.Nat.{mul-le-mul_right}
use native.Mathlib.Omega.{arith}
use borrow.Author.Tests.{le-ltb}
use lib.Dec.{T}
use lib.IntN.{ℤ, pos, negsuc, neg_ℤ, nat_abs, ◌+ℤ◌, ◌*ℤ◌}
use lib.Signed.{shr_z, non_neg, mag}
use mir.Syntax.{w16, w32}
use mir.Val.{Fits, to_z, of_z}
use Rattle.numbers.specs.Signed.{natural, ◌>>◌}
use Rattle.numbers.specs.Choice.{◌≤?◌}
use Rattle.numbers.proofs.Choice.{chosen, least_le}
use Rattle.numbers.proofs.Range.{reads, quotes, q_unsigned, q_elem16}
use Rattle.dsp.specs.Voice.{PitchSource, pitch_of, position_of, samples_taken}
use Rattle.dsp.specs.declared.voice.Voice.{Voice}

-- z is the number n, at most m
pub record IsNat (m : ℕ) (z : ℤ) : Type 0 where
  pub n : ℕ
  pub is : z ≡ pos n
  pub le : n ≤ m

lowered : (b m : ℕ) → m ≤ 1024 * b → IsNat (2 * b) (pos b +ℤ shr_z (neg_ℤ (pos m)) 1024)
lowered b zero h = record { n = b + 0; is = refl; le = omega arith }
lowered b (suc m) h = record { n = b - suc (m / 1024); is = rw (le-ltb b (suc (m / 1024)) (omega arith)); le = omega arith }

pub pitch_nat : (b : ℕ) (x : ℤ) → mag x < 32768 → IsNat (2 * b) (pos b +ℤ (((x >> 5) *ℤ pos b) >> 10))
pitch_nat b (pos a) f =
    let h : a / 32 * b ≤ 1024 * b = mul-le-mul_right b (omega arith) in
    record { n = b + (a / 32 * b) / 1024; is = refl; le = omega arith }
pitch_nat b (negsuc a) f = lowered b (suc (a / 32) * b) (mul-le-mul_right b (omega arith))

-- the cast of such a number, and its bound
pub cast_nat : {m : ℕ} {z : ℤ} → IsNat m z → m < 4294967296 → T (non_neg z) × Fits w32 (nat_abs z)
cast_nat {m} {z} k l = let h = k.le in rw k.is (tt, record { fits = omega arith })

pub nat_le : {m : ℕ} {z : ℤ} → IsNat m z → nat_abs z ≤ m
nat_le {m} {z} k = rw k.is k.le

-- what the code computes at 32 bits
abbrev pub machine : ℕ → ℤ → ℤ
machine b x =
    to_z w32 (of_z w32 (to_z w32 b +ℤ to_z w32 (of_z w32 (shr_z (to_z w32 (of_z w32 (to_z w32 (of_z w32 (to_z w16 (of_z w16 (shr_z (to_z w16 (of_z w16 x)) 32)))) *ℤ to_z w32 b))) 1024))))

pub machine_is : (b : ℕ) (x : ℤ) → Fits w16 b → mag x < 32768 → machine b x ≡ pos b +ℤ (((x >> 5) *ℤ pos b) >> 10)
machine_is b x f h = reads (search (quotes, q_unsigned, q_elem16) depth 20) tt

pub machine_nat : (b : ℕ) (x : ℤ) → Fits w16 b → mag x < 32768 → IsNat (2 * b) (machine b x)
machine_nat b x f h = let k = pitch_nat b x h in rw (machine_is b x f h) k

-- ---- the position within a tick

pub position_le : (x : PitchSource) (v : Voice) → position_of x v ≤ 0x7FFF
unfolding position_of
position_le x v = least_le (v.pitch_counter % 0x4000 + natural (pitch_of v.pitch x)) 0x7FFF

-- it never goes back
pub position_least : (x : PitchSource) (v : Voice) → v.pitch_counter % 0x4000 ≤ position_of x v
unfolding position_of
position_least x v =
    let P : ℕ → Type 0 = λ (n : ℕ). v.pitch_counter % 0x4000 ≤ n in
    chosen P (v.pitch_counter % 0x4000 + natural (pitch_of v.pitch x) ≤? 0x7FFF) (omega arith) (omega arith)

-- at most 7 samples a tick
pub seven : (x : PitchSource) (v : Voice) → samples_taken x v ≤ 7
unfolding samples_taken
seven x v = omega (arith, position_le x v)
