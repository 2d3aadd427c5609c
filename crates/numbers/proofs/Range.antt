-- The ranges and the read-backs of signed formulas, by computation.
-- `Q z`: the machine's number z stands for `value`, of magnitude at most `bound`, where `ok` computes to true. `search quotes` builds it from z.
use Rattle.std.proofs.Common.{◌≡◌, ℕ, zero, suc, ◌+◌, ◌-◌, ◌*◌, ◌/◌, ◌^◌, ◌<◌, ◌≤◌, Bool, true, false, cond, ◌&&◌, T, ltb, leb, ℤ, pos, negsuc, ◌+ℤ◌, ◌-ℤ◌, ◌*ℤ◌, neg_ℤ, refl, ap, ◌∙◌, le_trans, le_refl, lt_of_le_of_lt, mul-le-mul, le-div_iff_mul-le, div-mul-le_self, arith, ltb→lt, leb→le, Fits, SFits, to_z, of_z}
use native.Mathlib.Nat.{div-zero}
use lib.Signed.{mag, shr_z}
use mir.Syntax.{Width}
use mir.Val.{bits, hbits}
use mir.ValLaws.{to_z-of_z}

-- ---- the magnitude of each operation's result

mag_cond : (b : Bool) {m n k : ℕ} → m ≤ k → n ≤ k → mag (cond b (negsuc m) (pos n)) ≤ k
mag_cond true p q = p
mag_cond false p q = q

mag_add : (x y : ℤ) → mag (x +ℤ y) ≤ suc (mag x + mag y)
mag_add (pos a) (pos b) = omega arith
mag_add (pos a) (negsuc b) = mag_cond (ltb a (suc b)) (omega arith) (omega arith)
mag_add (negsuc a) (pos b) = mag_cond (ltb b (suc a)) (omega arith) (omega arith)
mag_add (negsuc a) (negsuc b) = omega arith

mag_sub : (x y : ℤ) → mag (x -ℤ y) ≤ suc (mag x + mag y)
mag_sub (pos a) (pos zero) = omega arith
mag_sub (pos a) (pos (suc b)) = mag_cond (ltb a (suc b)) (omega arith) (omega arith)
mag_sub (pos a) (negsuc b) = omega arith
mag_sub (negsuc a) (pos zero) = mag_cond (ltb 0 (suc a)) (omega arith) (omega arith)
mag_sub (negsuc a) (pos (suc b)) = omega arith
mag_sub (negsuc a) (negsuc b) = mag_cond (ltb (suc b) (suc a)) (omega arith) (omega arith)

mag_neg : (n : ℕ) → mag (neg_ℤ (pos n)) ≤ n - 1
mag_neg zero = le_refl 0
mag_neg (suc n) = omega arith

mag_mul : (x y : ℤ) → mag (x *ℤ y) ≤ suc (mag x) * suc (mag y)
mag_mul (pos a) (pos b) = omega arith
mag_mul (pos a) (negsuc b) = omega (arith, mag_neg (a * suc b))
mag_mul (negsuc a) (pos b) = omega (arith, mag_neg (suc a * b))
mag_mul (negsuc a) (negsuc b) = omega arith

-- by a number that is not negative: exact at both ends
mag_times : (n : ℕ) (x : ℤ) → mag (pos n *ℤ x) ≤ n * suc (mag x) - 1
mag_times zero (pos a) = omega arith
mag_times (suc n) (pos a) = omega arith
mag_times n (negsuc a) = mag_neg (n * suc a)

div_mono : (m : ℕ) {a b : ℕ} → a ≤ b → a / m ≤ b / m
div_mono zero {a} h = rw (div-zero a) (omega arith)
div_mono (suc m) {a} {b} h = (le-div_iff_mul-le {k = suc m} {x = a / suc m} {y = b} (omega arith)).1 (le_trans (div-mul-le_self a (suc m)) h)

-- ---- laws: of the machine's h, which stands for f, and of an operation f, with a bound from the operands' bounds, where a test of those passes

abbrev pub Law1 : (ℤ → ℤ) → (ℤ → ℤ) → (ℕ → ℕ) → (ℕ → Bool) → Type 0
Law1 h f g r = (x : ℤ) (m : ℕ) → mag x ≤ m → T (r m) → (h x ≡ f x) × (mag (f x) ≤ g m)

abbrev pub Law2 : (ℤ → ℤ → ℤ) → (ℕ → ℕ → ℕ) → (ℕ → ℕ → Bool) → Type 0
Law2 f g r = (x y : ℤ) (m n : ℕ) → mag x ≤ m → mag y ≤ n → T (r m n) → mag (f x y) ≤ g m n

pub add_law : Law2 ◌+ℤ◌ (λ m n. suc (m + n)) (λ m n. true)
add_law x y m n p q t = omega (arith, mag_add x y)

pub sub_law : Law2 ◌-ℤ◌ (λ m n. suc (m + n)) (λ m n. true)
sub_law x y m n p q t = omega (arith, mag_sub x y)

pub mul_law : Law2 ◌*ℤ◌ (λ m n. suc m * suc n) (λ m n. true)
mul_law x y m n p q t = le_trans (mag_mul x y) (mul-le-mul (omega arith) (omega arith))

pub times_law : (n : ℕ) → Law1 (λ x. pos n *ℤ x) (λ x. pos n *ℤ x) (λ m. n * suc m - 1) (λ m. true)
times_law n x m p t = (refl, (let q : n * suc (mag x) ≤ n * suc m = mul-le-mul (le_refl n) (omega arith) in omega (arith, mag_times n x)))

pub shr_law : (k : ℕ) → Law1 (λ x. shr_z x k) (λ x. shr_z x k) (λ m. m / k) (λ m. true)
shr_law k (pos a) m p t = (refl, div_mono k p)
shr_law k (negsuc a) m p t = (refl, div_mono k p)

pub within_fits : (w : Width) (x : ℤ) (m : ℕ) → mag x ≤ m → T (ltb m (2 ^ hbits w)) → SFits w x
within_fits w x m p t = record { sfits = lt_of_le_of_lt p (ltb→lt m (2 ^ hbits w) t) }

pub read_law : (w : Width) → Law1 (λ x. to_z w (of_z w x)) (λ x. x) (λ m. m) (λ m. ltb m (2 ^ hbits w))
read_law w x m p t = (to_z-of_z w x (within_fits w x m p t), p)

pub landed : (w : Width) {z : ℤ} → mag z < 2 ^ hbits w → to_z w (of_z w z) ≡ z
landed w h = to_z-of_z w _ (record { sfits = h })

-- ---- formulas

pub and_l : (a b : Bool) → T (a && b) → T a
and_l true b t = tt
and_l false b t = t

pub and_r : (a b : Bool) → T (a && b) → T b
and_r true b t = t
and_r false b t = absurd t

pub record Q (z : ℤ) : Type 0 where
  pub value : ℤ
  pub bound : ℕ
  pub ok : Bool
  pub is : T ok → z ≡ value
  pub within : T ok → mag value ≤ bound

-- the magnitude of z is at most m. A record, so that z can be inferred
pub record Within (m : ℕ) (z : ℤ) : Type 0 where
  pub le : mag z ≤ m

-- what a test that is passed gives
pub passed : {z : ℤ} (q : Q z) (b : Bool) → T (q.ok && b) → (z ≡ q.value) × (mag q.value ≤ q.bound) × T b
passed q b t = let o = and_l q.ok b t in (q.is o, q.within o, and_r q.ok b t)

abbrev pub q_1 : (h f : ℤ → ℤ) (g : ℕ → ℕ) (r : ℕ → Bool) → Law1 h f g r → {a : ℤ} → Q a → Q (h a)
q_1 h f g r law p =
    let d = r p.bound in
    record {
      value = f p.value;
      bound = g p.bound;
      ok = p.ok && d;
      is = λ t. let o = passed p d t in ap h o.0 ∙ (law p.value p.bound o.1 o.2).0;
      within = λ t. let o = passed p d t in (law p.value p.bound o.1 o.2).1;
    }

abbrev pub q_2 : (f : ℤ → ℤ → ℤ) (g : ℕ → ℕ → ℕ) (r : ℕ → ℕ → Bool) → Law2 f g r → {a b : ℤ} → Q a → Q b → Q (f a b)
q_2 f g r law p q =
    let d = r p.bound q.bound in
    record {
      value = f p.value q.value;
      bound = g p.bound q.bound;
      ok = p.ok && (q.ok && d);
      is = λ t. let o = passed p (q.ok && d) t in λ i. f (o.0 i) ((passed q d o.2).0 i);
      within = λ t. let o = passed p (q.ok && d) t in let u = passed q d o.2 in law p.value q.value p.bound q.bound o.1 u.1 u.2;
    }

-- leaves: what stands for x, of magnitude at most m; of a hypothesis; a parameter; of an element or a field; an unsigned number; literals, at which alone the test computes
abbrev pub q_is : {z : ℤ} (x : ℤ) (m : ℕ) → z ≡ x → mag x ≤ m → Q z
q_is x m e h = record { value = x; bound = m; ok = true; is = λ t. e; within = λ t. h }

abbrev pub q_at : (x : ℤ) (m : ℕ) → Within m x → Q x
q_at x m h = q_is x m refl h.le

pub below : {n m : ℕ} → n < m → n ≤ m - 1
below h = omega arith

abbrev pub q_par : (w : Width) (x : ℤ) → SFits w x → Q x
q_par w x f = q_is x (2 ^ hbits w - 1) refl (below f.sfits)

abbrev pub q_mag : (m : ℕ) (x : ℤ) → mag x < m → Q x
q_mag m x h = q_is x (m - 1) refl (below h)

abbrev pub q_elem16 : (x : ℤ) → mag x < 0x8000 → Q x
q_elem16 x h = q_mag 0x8000 x h

abbrev pub q_nat : (w : Width) (n : ℕ) → Fits w n → Q (pos n)
q_nat w n f = q_is (pos n) (2 ^ bits w - 1) refl (below f.fits)

abbrev pub q_pos : (n : ℕ) → T (leb n 2147483647) → Q (pos n)
q_pos n t = q_is (pos n) n refl (le_refl n)

abbrev pub q_neg : (n : ℕ) → T (leb n 2147483647) → Q (negsuc n)
q_neg n t = q_is (negsuc n) n refl (le_refl n)

-- the operations; `x << k >> k` and masks are in `Cut.antt`
abbrev pub q_add : {a b : ℤ} → Q a → Q b → Q (a +ℤ b)
q_add p q = q_2 ◌+ℤ◌ _ (λ m n. true) add_law p q

abbrev pub q_sub : {a b : ℤ} → Q a → Q b → Q (a -ℤ b)
q_sub p q = q_2 ◌-ℤ◌ _ (λ m n. true) sub_law p q

abbrev pub q_mul : {a b : ℤ} → Q a → Q b → Q (a *ℤ b)
q_mul p q = q_2 ◌*ℤ◌ _ (λ m n. true) mul_law p q

abbrev pub q_times : {a : ℤ} (n : ℕ) → T (leb n 2147483647) → Q a → Q (pos n *ℤ a)
q_times n l p = q_1 (λ x. pos n *ℤ x) (λ x. pos n *ℤ x) _ (λ m. true) (times_law n) p

abbrev pub q_shr : {a : ℤ} (k : ℕ) → Q a → Q (shr_z a k)
q_shr k p = q_1 (λ x. shr_z x k) (λ x. shr_z x k) _ (λ m. true) (shr_law k) p

-- what the machine reads back from the bits; from those of an unsigned number, `n as i32`
abbrev pub q_read : {a : ℤ} (w : Width) → Q a → Q (to_z w (of_z w a))
q_read w p = q_1 (λ x. to_z w (of_z w x)) (λ x. x) _ (λ m. ltb m (2 ^ hbits w)) (read_law w) p

abbrev pub q_unsigned : (w w' : Width) (n : ℕ) → Fits w' n → Q (to_z w n)
q_unsigned w w' n f = q_read w (q_nat w' n f)

-- what equals a formula, as a call's result does; a local of a loop, whose invariant says of what it holds the bits
abbrev pub q_by : {r z : ℤ} → r ≡ z → Q z → Q r
q_by e q = record { value = q.value; bound = q.bound; ok = q.ok; is = λ t. e ∙ q.is t; within = λ t. q.within t }

-- a call's result that its type bounds, whatever bound the formula has
pub value_below : {r : ℤ} (m : ℕ) (q : Q r) → T q.ok → mag r < m → mag q.value ≤ m - 1
value_below m q t h = below (rw (q.is t) at h)

abbrev pub q_call : (m : ℕ) {r z : ℤ} → r ≡ z → mag r < m → Q z → Q r
q_call m e h q = record { value = q.value; bound = m - 1; ok = q.ok; is = λ t. e ∙ q.is t; within = λ t. value_below m (q_by e q) t h }

pub ruleset quotes = (tt, q_par, q_pos, q_neg, q_add, q_sub, q_mul, q_shr, q_read)

-- ---- the uses

pub reads : {z : ℤ} (q : Q z) → T q.ok → z ≡ q.value
reads q t = q.is t

pub fits : {w : Width} {z : ℤ} (q : Q z) → T (q.ok && ltb q.bound (2 ^ hbits w)) → SFits w z
fits {w} q t = let o = passed q (ltb q.bound (2 ^ hbits w)) t in rw o.0 (within_fits w _ _ o.1 o.2)

pub bounded : {z : ℤ} {m : ℕ} (q : Q z) → T (q.ok && leb q.bound m) → Within m z
bounded {m = m} q t = let o = passed q (leb q.bound m) t in record { le = rw o.0 (le_trans o.1 (leb→le _ _ o.2)) }
