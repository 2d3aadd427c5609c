-- The digits of a number, and a number with one bit as given, from the lowest digit on: its digits, its size, and that the
-- machine's masks give it.
use Rattle.std.proofs.Common.{◌≡◌, ℕ, zero, suc, ◌+◌, ◌-◌, ◌*◌, ◌/◌, ◌%◌, ◌^◌, ◌<◌, ◌≤◌, Bool, true, false, ◌≢◌, sym, refl, ap, ◌∙◌, subst, le_trans, mul-le-mul_right, mod-eq_of_lt, pow-suc, div-mul-le_self, one-add, arith, pow_pos, shr-shr, eq-eqb, ne_eqb, eqb-true, le-leb, if◌then◌else◌}
use native.Mathlib.Nat.{mod-le}
use native.Mathlib.Decide.{ℕ_discrete, dec_le}
use borrow.Author.Tests.{eqb-false, lt-leb}
use lib.Bits.{bit_and, bit_or, or_step, and_step, and_mask, or_zero_r}
use lib.Dec.{eqb-zero-suc, eqb-suc-zero, eqb-suc-suc}
use lib.Pow.{pow-lt}
use Rattle.numbers.specs.Bits.{bit, with_bit}
use Rattle.numbers.specs.Choice.{◌=?◌, ◌≤?◌}
use Rattle.numbers.proofs.Choice.{chosen}

-- ---- digits

abbrev pub digit : ℕ → ℕ → ℕ
digit x k = x / 2 ^ k % 2

pub digit_half : (x k : ℕ) → digit (x / 2) k ≡ digit x (suc k)
digit_half x k = rw (shr-shr x 1 k, one-add k)

digit_le : (x k : ℕ) → digit x k * 2 ^ k ≤ x
digit_le x k = le_trans (mul-le-mul_right (2 ^ k) (mod-le (x / 2 ^ k) 2)) (div-mul-le_self x (2 ^ k))

-- numbers of w digits that are equal digit by digit
pub digits_ext : (w x y : ℕ) → x < 2 ^ w → y < 2 ^ w → ((k : ℕ) → k < w → digit x k ≡ digit y k) → x ≡ y
digits_ext zero x y l m h = omega arith
digits_ext (suc w) x y l m h =
    let f = digits_ext w (x / 2) (y / 2) (omega arith) (omega arith) (λ k n. rw (digit_half x k, digit_half y k) (h (suc k) (omega arith))) in
    omega (arith, h 0 (omega arith))

same_digit : (d e : ℕ) → d < 2 → e < 2 → (d =? 1) ≡ (e =? 1) → d ≡ e
same_digit d e l m h =
    elim (ℕ_discrete d 1) [
      | yes p ↦ p ∙ sym (eqb-true e 1 (sym h ∙ eq-eqb d 1 p))
      | no p ↦ let q = eqb-false e 1 (sym h ∙ ne_eqb d 1 p) in omega arith
    ]

-- bytes that are equal bit by bit
pub byte_ext : (x y : ℕ) → x < 256 → y < 256 → ((k : ℕ) → k < 8 → bit x k ≡ bit y k) → x ≡ y
byte_ext x y l m h = digits_ext 8 x y l m (λ k n. same_digit (digit x k) (digit y k) (omega arith) (omega arith) (h k n))

-- ---- one bit as given

with_lowest : (x : ℕ) (on : Bool) → with_bit x 0 on ≡ x / 2 * 2 + (if on then 1 else 0)
unfolding with_bit
with_lowest x on = omega arith

one_digit : (on : Bool) → (if on then 1 else 0) < 2
one_digit on = chosen (λ (n : ℕ). n < 2) on (omega arith) (omega arith)

-- a higher one is one of the half
with_higher : (x n : ℕ) (on : Bool) → with_bit x (suc n) on ≡ with_bit (x / 2) n on * 2 + x % 2
unfolding with_bit
with_higher x n on =
    let d = digit (x / 2) n in
    let e : d ≡ digit x (suc n) = digit_half x n in
    let p : 2 ^ suc n ≡ 2 ^ n * 2 = pow-suc 2 n in
    let m : d * 2 ^ suc n ≡ d * 2 ^ n * 2 = rw p (omega arith) in
    let l : d * 2 ^ n ≤ x / 2 = digit_le (x / 2) n in
    rw (← e) (elim on as (λ (b : Bool). x - d * 2 ^ suc n + (if b then 2 ^ suc n else 0) ≡ with_bit (x / 2) n b * 2 + x % 2) [ true ↦ omega arith | false ↦ omega arith ])

pub with_digit : (x n k : ℕ) (on : Bool) → digit (with_bit x n on) k ≡ (if k =? n then (if on then 1 else 0) else digit x k)
with_digit x zero zero on = rw (with_lowest x on) (omega (arith, one_digit on))
with_digit x zero (suc k) on =
    let e : with_bit x 0 on / 2 ≡ x / 2 = rw (with_lowest x on) (omega (arith, one_digit on)) in
    rw (← digit_half (with_bit x 0 on) k, e, eqb-suc-zero k) (digit_half x k)
with_digit x (suc n) zero on = rw (with_higher x n on, eqb-zero-suc n) (omega arith)
with_digit x (suc n) (suc k) on =
    let e : with_bit x (suc n) on / 2 ≡ with_bit (x / 2) n on = rw (with_higher x n on) (omega arith) in
    rw (← digit_half (with_bit x (suc n) on) k, e, eqb-suc-suc k n, ← digit_half x k) (with_digit (x / 2) n k on)

one_bit : (on : Bool) → ((if on then 1 else 0) =? 1) ≡ on
one_bit true = refl
one_bit false = refl

pub bit_here : (x n : ℕ) (on : Bool) → bit (with_bit x n on) n ≡ on
bit_here x n on = rw (with_digit x n n on, eq-eqb n n refl) (one_bit on)

pub bit_there : (x n k : ℕ) (on : Bool) → k ≢ n → bit (with_bit x n on) k ≡ bit x k
bit_there x n k on h = rw (with_digit x n k on, ne_eqb k n h)

-- what it had is what is put back
pub with_own : (x n : ℕ) → with_bit x n (bit x n) ≡ x
unfolding with_bit
with_own x n =
    let d = digit x n in
    let l : d * 2 ^ n ≤ x = digit_le x n in
    elim (ℕ_discrete d 1) [
      | yes e ↦ let m : 1 * 2 ^ n ≤ x = subst (λ (k : ℕ). k * 2 ^ n ≤ x) e l in rw (eq-eqb d 1 e, e) (omega arith)
      | no e ↦ let z : d ≡ 0 = omega arith in rw (ne_eqb d 1 e, z) (omega arith)
    ]

-- the second of two is what stands
pub with_twice : (x n : ℕ) (a b : Bool) → with_bit (with_bit x n a) n b ≡ with_bit x n b
unfolding with_bit
with_twice x n true b =
    let rest = x - digit x n * 2 ^ n in
    let e : digit (rest + 2 ^ n) n ≡ 1 = with_digit x n n true ∙ ap (λ (t : Bool). if t then 1 else digit x n) (eq-eqb n n refl) in
    ap (λ (k : ℕ). rest + 2 ^ n - k * 2 ^ n + (if b then 2 ^ n else 0)) e ∙ omega arith
with_twice x n false b =
    let rest = x - digit x n * 2 ^ n in
    let e : digit (rest + 0) n ≡ 0 = with_digit x n n false ∙ ap (λ (t : Bool). if t then 0 else digit x n) (eq-eqb n n refl) in
    ap (λ (k : ℕ). rest + 0 - k * 2 ^ n + (if b then 2 ^ n else 0)) e ∙ omega arith

-- it has no more digits
with_below : (w x n : ℕ) (on : Bool) → x < 2 ^ w → n < w → with_bit x n on < 2 ^ w
with_below zero x n on l m = absurd (omega arith)
with_below (suc w) x zero on l m = rw (with_lowest x on) (omega (arith, one_digit on))
with_below (suc w) x (suc n) on l m =
    let h : with_bit (x / 2) n on < 2 ^ w = with_below w (x / 2) n on (omega arith) (omega arith) in
    rw (with_higher x n on) (omega arith)

pub with_byte : (x n : ℕ) (on : Bool) → x < 256 → n < 8 → with_bit x n on < 256
with_byte x n on l m = with_below 8 x n on l m

-- ---- by a mask

pub or_with : (x n : ℕ) → bit_or x (2 ^ n) ≡ with_bit x n true
or_with x zero = or_step x 1 ∙ rw (with_lowest x true, or_zero_r (x / 2)) (omega arith)
or_with x (suc n) =
    let h : 2 ^ suc n / 2 ≡ 2 ^ n = omega arith in
    let e : 2 ^ suc n % 2 ≡ 0 = omega arith in
    or_step x (2 ^ suc n) ∙ rw (h, e, or_with (x / 2) n, with_higher x n true) (omega arith)

-- of a number of w digits
and_with : (w x n : ℕ) → x < 2 ^ w → n < w → bit_and x (2 ^ w - 1 - 2 ^ n) ≡ with_bit x n false
and_with zero x n l m = absurd (omega arith)
and_with (suc w) x zero l m =
    let h : (2 ^ suc w - 1 - 1) / 2 ≡ 2 ^ w - 1 = omega (arith, pow_pos w) in
    let e : (2 ^ suc w - 1 - 1) % 2 ≡ 0 = omega (arith, pow_pos w) in
    let f : x / 2 % 2 ^ w ≡ x / 2 = mod-eq_of_lt (omega arith) in
    and_step x (2 ^ suc w - 1 - 1) ∙ rw (h, e, and_mask (x / 2) w, f, with_lowest x false) (omega arith)
and_with (suc w) x (suc n) l m =
    let p : 2 ^ n < 2 ^ w = pow-lt (omega arith) in
    let h : (2 ^ suc w - 1 - 2 ^ suc n) / 2 ≡ 2 ^ w - 1 - 2 ^ n = omega arith in
    let e : (2 ^ suc w - 1 - 2 ^ suc n) % 2 ≡ 1 = omega arith in
    and_step x (2 ^ suc w - 1 - 2 ^ suc n) ∙ rw (h, e, and_with w (x / 2) n (omega arith) (omega arith), with_higher x n false) (omega arith)

pub and_with_byte : (x n : ℕ) → x < 256 → n < 8 → bit_and x (255 - 2 ^ n) ≡ with_bit x n false
and_with_byte x n l m = and_with 8 x n l m

-- ---- bit 7

pub top_bit : (x : ℕ) → x < 256 → bit x 7 ≡ (0x80 ≤? x)
top_bit x l =
    elim (dec_le 0x80 x) [
      | yes h ↦ eq-eqb (digit x 7) 1 (omega arith) ∙ sym (le-leb _ _ h)
      | no h ↦ ne_eqb (digit x 7) 1 (λ e. omega arith) ∙ sym (lt-leb 0x80 x (omega arith))
    ]
