-- A left shift and a right shift by one count cut a number to the bits that are left.
use Rattle.std.proofs.Common.{◌≡◌, ℕ, zero, suc, ◌+◌, ◌-◌, ◌*◌, ◌/◌, ◌%◌, ◌^◌, ◌<◌, ◌≤◌, Bool, true, T, eqb, ltb, ℤ, pos, negsuc, sym, refl, ap, ◌∙◌, add-zero, mul-le-mul_right, mod-lt, mul_comm, div-lt_iff_lt-mul, add-mul, mul-lt-mul_of_pos_right, div-add-mod', mul-div_cancel, arith, eqb→eq, w32, SFits, to_z, of_z, le-ltb, lt-ltb}
use native.Mathlib.Nat.{mul-mod_left}
use native.Mathlib.Decide.{dec_lt}
use lib.Bits.{bit_and, and_mask}
use lib.Arith.{digits_div, digits_mod, mod-mul}
use lib.Signed.{mag, shr_z}
use mir.Syntax.{Width}
use mir.Val.{bits, hbits}
use mir.ValLaws.{to_z_pos}
use Rattle.numbers.specs.Signed.{minus, mod_z, signed_at, cut_z}
use Rattle.numbers.proofs.Range.{Q, q_1, Law1, Within, within_fits, quotes}

to_z-high : (w : Width) (n : ℕ) → 2 ^ hbits w ≤ n → to_z w n ≡ negsuc (2 ^ bits w - suc n)
to_z-high w n h = rw (le-ltb n (2 ^ hbits w) h)

minus_is : (n : ℕ) → 0 < n → minus n ≡ negsuc (n - 1)
minus_is zero h = absurd (omega arith)
minus_is (suc n) h = ap negsuc (omega arith)

-- h is half of what is left, and c the power that shifts
module _ (h c : ℕ) (e : h * c ≡ 2147483648) (pc : 0 < c) (ph : 0 < h) where
  whole : (h + h) * c ≡ 4294967296
  whole = omega arith

  back : (k j : ℕ) → k + suc j ≡ h + h → (4294967296 - suc (k * c)) / c ≡ j
  back k j p =
      let s : (k + suc j) * c ≡ 4294967296 = rw p whole in
      let m : 4294967296 - suc (k * c) ≡ j * c + (c - 1) = omega arith in
      rw m (digits_div j (omega arith))

  shifted : (k : ℕ) → k < h + h → Dec (k < h) → shr_z (to_z w32 (k * c)) c ≡ signed_at h k
  shifted k l (yes p) =
      let q : k * c < 2147483648 = rw e at (mul-lt-mul_of_pos_right p pc) in
      rw (to_z_pos w32 (k * c) q, lt-ltb k h p) (ap pos (mul-div_cancel k pc))
  shifted k l (no p) =
      let g : h ≤ k = omega arith in
      let q : 2147483648 ≤ k * c = rw e at (mul-le-mul_right c g) in
      rw (to_z-high w32 (k * c) q, le-ltb k h g, minus_is (h + h - k) (omega arith)) (ap negsuc (back k (h + h - k - 1) (omega arith)))

  low_mod : (a : ℕ) → (a * c) % 4294967296 ≡ (a % (h + h)) * c
  low_mod a = rw (← whole, mod-mul (a * c) {m = h + h} (omega arith) pc, mul-div_cancel a pc, mul-mod_left a c) (add-zero _)

  neg_mod : (n : ℕ) → n < 4294967296 → (4294967296 - suc n) % (h + h) ≡ h + h - suc (n % (h + h))
  neg_mod n l =
      let m = h + h in let q = n / m in let r = n % m in
      let rl : r < m = mod-lt n (omega arith) in
      let d : q * m + r ≡ n = div-add-mod' n m in
      let w : c * m ≡ 4294967296 = mul_comm c m ∙ whole in
      let ql : q < c = (div-lt_iff_lt-mul {k = m} {x = n} {y = c} (omega arith)).1 (omega arith) in
      let s : (c - suc q) * m + suc q * m ≡ c * m = sym (add-mul (c - suc q) (suc q) m) ∙ ap (λ (z : ℕ). z * m) (omega arith) in
      ap (λ (z : ℕ). z % m) (omega arith) ∙ digits_mod (c - suc q) {m = m} {r = m - suc r} (omega arith)

  low : (x : ℤ) → SFits w32 x → (of_z w32 x * c) % 4294967296 ≡ mod_z x (h + h) * c
  low (pos n) f = low_mod n
  low (negsuc n) f = rw (low_mod (4294967296 - suc n), neg_mod n (omega (arith, f.sfits)))

  mod_below : (x : ℤ) → mod_z x (h + h) < h + h
  mod_below (pos n) = mod-lt n (omega arith)
  mod_below (negsuc n) = omega arith

  pub cut_shifts : (x : ℤ) → SFits w32 x → shr_z (to_z w32 ((of_z w32 x * c) % 4294967296)) c ≡ cut_z h x
  cut_shifts x f = rw (low x f) (shifted (mod_z x (h + h)) (mod_below x) (dec_lt (mod_z x (h + h)) h))

  cut_mag : (m : ℕ) → m < h + h → Dec (m < h) → mag (signed_at h m) ≤ h - 1
  cut_mag m l (yes p) = rw (lt-ltb m h p) (omega arith)
  cut_mag m l (no p) = let g : h ≤ m = omega arith in rw (le-ltb m h g, minus_is (h + h - m) (omega arith)) (omega arith)

  pub cut_within : (x : ℤ) → Within (h - 1) (cut_z h x)
  cut_within x = record { le = cut_mag (mod_z x (h + h)) (mod_below x) (dec_lt (mod_z x (h + h)) h) }

  pub cut_law : Law1 (λ x. shr_z (to_z w32 ((of_z w32 x * c) % 4294967296)) c) (cut_z h) (λ m. h - 1) (λ m. ltb m (2 ^ hbits w32))
  cut_law x m p t = (cut_shifts x (within_fits w32 x m p t), (cut_within x).le)

  -- cut_z itself, as a callee's ensures has it
  pub cut_z_law : Law1 (cut_z h) (cut_z h) (λ m. h - 1) (λ m. true)
  cut_z_law x m p t = (refl, (cut_within x).le)

-- a count of bits to shift by is told by its power c: h is what c leaves of 2 ^ 31
abbrev pub half : ℕ → ℕ
half c = 2147483648 / c

abbrev pub divides : ℕ → Bool
divides c = eqb (half c * c) 2147483648

factor : (a b : ℕ) → a * b ≡ 2147483648 → (0 < a) × (0 < b)
factor zero b e = absurd (omega arith)
factor (suc a) zero e = absurd (omega arith)
factor (suc a) (suc b) e = (omega arith, omega arith)

-- `(x << k) >> k`, for the k whose power is c
pub shifts_law : (c : ℕ) → T (divides c)
    → Law1 (λ x. shr_z (to_z w32 ((of_z w32 x * c) % 4294967296)) c) (cut_z (half c)) (λ m. half c - 1) (λ m. ltb m (2 ^ hbits w32))
shifts_law c t =
    let e = eqb→eq (half c * c) 2147483648 t in
    let f = factor (half c) c e in
    cut_law (half c) c e f.1 f.0

abbrev pub q_cut : {x : ℤ} (c : ℕ) → T (divides c) → Q x → Q (shr_z (to_z w32 ((of_z w32 x * c) % 4294967296)) c)
q_cut c t p = q_1 (λ x. shr_z (to_z w32 ((of_z w32 x * c) % 4294967296)) c) (cut_z (half c)) _ (λ m. ltb m (2 ^ hbits w32)) (shifts_law c t) p

pub cut_z-any : (h : ℕ) → T (divides h) → Law1 (cut_z h) (cut_z h) (λ m. h - 1) (λ m. true)
cut_z-any h t =
    let e = eqb→eq (half h * h) 2147483648 t in
    let f = factor (half h) h e in
    cut_z_law h (half h) (mul_comm h (half h) ∙ e) f.0 f.1

abbrev pub q_cut_z : {a : ℤ} (h : ℕ) → T (divides h) → Q a → Q (cut_z h a)
q_cut_z h t p = q_1 (cut_z h) (cut_z h) _ (λ m. true) (cut_z-any h t) p

pub ruleset cuts = (q_cut, quotes)

-- ---- the low byte, by a mask

low_mod_256 : (x : ℤ) → SFits w32 x → of_z w32 x % 256 ≡ mod_z x 256
low_mod_256 (pos n) f = refl
low_mod_256 (negsuc n) f = omega (arith, f.sfits)

below_256 : (x : ℤ) → mod_z x 256 ≤ 255
below_256 (pos n) = omega arith
below_256 (negsuc n) = omega arith

pub low_law : Law1 (λ x. to_z w32 (bit_and (of_z w32 x) 255)) (λ x. pos (mod_z x 256)) (λ m. 255) (λ m. ltb m (2 ^ hbits w32))
low_law x m p t =
    (ap (to_z w32) (and_mask (of_z w32 x) 8 ∙ low_mod_256 x (within_fits w32 x m p t)) ∙ to_z_pos w32 (mod_z x 256) (omega (arith, below_256 x)), below_256 x)
