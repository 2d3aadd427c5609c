-- What a scaled nibble and a filter stay within, and each as a formula, for what a callee gives.
use Rattle.std.proofs.Common.{if◌then◌else◌}
use mathlib.Core.Path.{◌≡◌, refl}
use mathlib.Core.Bool.{Bool, true, false, ◌&&◌}
use Prim.Native.Nat.{ℕ, ◌^◌, ◌*◌, ◌%◌, ◌≤◌}
use native.Mathlib.Nat.{le_trans}
use native.Mathlib.Omega.{arith}
use lib.Dec.{T, leb, leb→le}
use lib.IntN.{ℤ, pos, ◌*ℤ◌}
use lib.Signed.{lt_z}
use lib.Pow.{pow_mono}
use mir.Syntax.{w32}
use mir.Val.{to_z}
use mir.ValLaws.{to_z_pos}
use Rattle.numbers.specs.Choice.{◌=?◌}
use Rattle.numbers.specs.Signed.{minus, ◌>>◌}
use Rattle.numbers.proofs.Range.{Q, q_1, q_2, Law1, Law2, Within, and_l, and_r, q_is, q_at, bounded, quotes}
use Rattle.numbers.proofs.Clamp.{calls}
use Rattle.numbers.proofs.Choice.{chosen}
use Rattle.sound.specs.Brr.{scaled_z, filter_z}

-- ---- the power of a shift

pub pow_small : (s : ℕ) → s ≤ 12 → (1 * 2 ^ s) % 4294967296 ≡ 2 ^ s
pow_small s h = omega (arith, pow_mono {i = s} {j = 12} h)

pub pow_reads : (s : ℕ) → s ≤ 12 → to_z w32 (2 ^ s) ≡ pos (2 ^ s)
pow_reads s h = to_z_pos w32 (2 ^ s) (omega (arith, pow_mono {i = s} {j = 12} h))

abbrev pub q_pow2 : (s : ℕ) → s ≤ 12 → Q (pos (2 ^ s))
q_pow2 s h = q_is (pos (2 ^ s)) 4096 refl (pow_mono h)

-- ---- the scaled nibble

scaled_by : (n : ℤ) (s : ℕ) (t u : Bool) → Within 7 n → (T t → s ≤ 12)
    → Within 16388 (if t then (n *ℤ pos (2 ^ s)) >> 1 else (if u then minus 0x800 else pos 0))
scaled_by n s true u w h = let p = h tt in bounded (search (q_at, q_pow2, quotes) depth 9) tt
scaled_by n s false true w h = bounded (search quotes) tt
scaled_by n s false false w h = bounded (search quotes) tt

pub scaled_law : (s : ℕ) → Law1 (λ x. scaled_z x s) (λ x. scaled_z x s) (λ m. 16388) (λ m. leb m 7)
scaled_law s x m p t =
    (refl, (scaled_by x s (leb s 12) (lt_z x (pos 0)) (record { le = le_trans p (leb→le m 7 t) }) (leb→le s 12)).le)

abbrev pub q_scaled : (s : ℕ) {a : ℤ} → Q a → Q (scaled_z a s)
q_scaled s p = q_1 (λ x. scaled_z x s) (λ x. scaled_z x s) _ (λ m. leb m 7) (scaled_law s) p

-- ---- the filter

filter_within : (f : ℕ) (x y : ℤ) → Within 0x7FFF x → Within 0x7FFF y → Within 150000 (filter_z f x y)
filter_within f x y h k =
    let P : ℤ → Type 0 = Within 150000 in
    chosen P (f =? 0) (bounded (search quotes) tt)
    (chosen P (f =? 1) (bounded (search (q_at, quotes) depth 20) tt)
    (chosen P (f =? 2) (bounded (search (q_at, quotes) depth 20) tt) (bounded (search (q_at, quotes) depth 20) tt)))

pub filter_law : (f : ℕ) → Law2 (filter_z f) (λ m n. 150000) (λ m n. leb m 0x7FFF && leb n 0x7FFF)
filter_law f x y m n p q t =
    (filter_within f x y
    (record { le = le_trans p (leb→le m 0x7FFF (and_l (leb m 0x7FFF) (leb n 0x7FFF) t)) })
    (record { le = le_trans q (leb→le n 0x7FFF (and_r (leb m 0x7FFF) (leb n 0x7FFF) t)) })).le

abbrev pub q_filter : (f : ℕ) {a b : ℤ} → Q a → Q b → Q (filter_z f a b)
q_filter f p q = q_2 (filter_z f) _ (λ m n. leb m 0x7FFF && leb n 0x7FFF) (filter_law f) p q

pub ruleset nibbles = (q_scaled, q_filter, q_pow2, calls)
