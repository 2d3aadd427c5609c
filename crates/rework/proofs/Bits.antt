-- A byte with some bits of another, and the set of voices that a byte holds: what joins it stays, and a set that a tick's rule has made
-- is closed under that tick's PMON.
use Rattle.std.proofs.Common.{if◌then◌else◌}
use mathlib.Core.Bool.{Bool, true, false, ◌&&◌}
use mathlib.Core.Logic.{◌≢◌}
use mathlib.Core.Path.{◌≡◌, refl, sym, ap, ◌∙◌}
use Prim.Native.Nat.{ℕ, zero, suc, ◌+◌, ◌/◌, ◌%◌, ◌^◌, ◌≤◌, ◌<◌}
use native.Mathlib.Omega.{arith}
use native.Mathlib.Decide.{ℕ_discrete}
use borrow.Author.Tests.{eqb-true, eqb-false}
use lib.Count.{ones, ones_step}
use Rattle.numbers.proofs.Choice.{tested, chosen}
use Rattle.numbers.specs.Bits.{bit, with_bit}
use Rattle.numbers.proofs.Bits.{digit, digit_half, byte_ext, bit_here, bit_there, with_byte}
use Rattle.numbers.specs.Listed.{turns}
use Rattle.dsp.proofs.Tests.{Decides, ◌and◌}
use Rattle.numbers.proofs.Turns.{turns_keep}
use Rattle.rework.specs.Members.{join_after, joined_by, counted_in, voices_in}
use Rattle.rework.specs.Rework.{end_bit}

-- ---- tests

-- a test for its own passing
pub itself : (b : Bool) → Decides b (b ≡ true)
itself b = record { sound = λ e. e; holds = λ e. e }

pub unless : (b : Bool) → (b ≡ true → ⊥) → b ≡ false
unless true h = absurd (h refl)
unless false h = refl

-- ---- a byte with the set's bits of another

end_there : (a new n x k : ℕ) → k ≢ n → bit (end_bit a new n x) k ≡ bit x k
end_there a new n x k h = chosen (λ (y : ℕ). bit y k ≡ bit x k) (bit a n) (bit_there x n k (bit new n) h) refl

end_here : (new n x : ℕ) (b : Bool) → bit (if b then with_bit x n (bit new n) else x) n ≡ (if b then bit new n else bit x n)
end_here new n x true = bit_here x n (bit new n)
end_here new n x false = refl

-- bit k before its turn, and behind it
bit-before : (a new old k n : ℕ) → n ≤ k → bit (turns (end_bit a new) n old) k ≡ bit old k
unfolding turns
bit-before a new old k zero l = refl
bit-before a new old k (suc n) l = end_there a new n _ k (omega arith) ∙ bit-before a new old k n (omega arith)

pub bit-behind : (a new old k n : ℕ) → k < n → bit (turns (end_bit a new) n old) k ≡ (if bit a k then bit new k else bit old k)
unfolding turns
bit-behind a new old k zero l = absurd (omega arith)
bit-behind a new old k (suc n) l =
    elim (ℕ_discrete k n) [
      | yes p ↦ rw p (end_here new n _ (bit a n) ∙ rw (bit-before a new old n n (omega arith)))
      | no p ↦ end_there a new n _ k p ∙ bit-behind a new old k n (omega arith)
    ]

pub end_byte_lem : (a new old : ℕ) → old < 256 → turns (end_bit a new) 8 old < 256
end_byte_lem a new old h =
    turns_keep (λ (x : ℕ). x < 256) (end_bit a new) 8 (λ n x l k. chosen (λ (y : ℕ). y < 256) (bit a n) (with_byte x n (bit new n) k l) k) 8 old (omega arith) h

-- ---- the set

-- bit k of the set after voice n + 1 had its turn to join: it is as it was, but for bit n + 1
join_there : (pmon n a k : ℕ) → k ≢ n + 1 → bit (join_after pmon n a) k ≡ bit a k
join_there pmon n a k h =
    tested (λ (x : ℕ). bit x k ≡ bit a k) (bit a n && bit pmon (n + 1)) (λ e. bit_there a (n + 1) k true h) (λ e. refl)

join_more : (pmon n a k : ℕ) → bit a k ≡ true → bit (join_after pmon n a) k ≡ true
join_more pmon n a k h =
    tested (λ (x : ℕ). bit x k ≡ true) (bit a n && bit pmon (n + 1))
    (λ e. elim (ℕ_discrete k (n + 1)) [ yes p ↦ ap (bit (with_bit a (n + 1) true)) p ∙ bit_here a (n + 1) true | no p ↦ bit_there a (n + 1) k true p ∙ h ])
    (λ e. h)

join_here : (pmon n a : ℕ) → bit a n ≡ true → bit pmon (n + 1) ≡ true → bit (join_after pmon n a) (n + 1) ≡ true
join_here pmon n a h k = rw (h, k) (bit_here a (n + 1) true)

-- the set only grows
pub joined_more : (pmon a j : ℕ) → j < 8 → bit a j ≡ true → bit (joined_by pmon a) j ≡ true
unfolding joined_by
joined_more pmon a j l h = turns_keep (λ (x : ℕ). bit x j ≡ true) (join_after pmon) 7 (λ n x m k. join_more pmon n x j k) 7 a (omega arith) h

closed_after : (pmon a j n : ℕ) → n ≤ 7 → j < n → bit (turns (join_after pmon) n a) j ≡ true → bit pmon (j + 1) ≡ true → bit (turns (join_after pmon) n a) (j + 1) ≡ true
unfolding turns
closed_after pmon a j zero l m h k = absurd (omega arith)
closed_after pmon a j (suc n) l m h k =
    let b = turns (join_after pmon) n a in
    let g : bit b j ≡ true = sym (join_there pmon n b j (omega arith)) ∙ h in
    elim (ℕ_discrete j n) [
      | yes p ↦ rw p (join_here pmon n b (rw p at g) (rw p at k))
      | no p ↦ join_more pmon n b (j + 1) (closed_after pmon a j n (omega arith) (omega arith) g k)
    ]

-- a voice behind one of the set is of the set where PMON selects it
pub joined_closed : (pmon a j : ℕ) → j < 7 → bit (joined_by pmon a) j ≡ true → bit pmon (j + 1) ≡ true → bit (joined_by pmon a) (j + 1) ≡ true
unfolding joined_by
joined_closed pmon a j l h k = closed_after pmon a j 7 (omega arith) l h k

pub joined_byte : (pmon a : ℕ) → a < 256 → joined_by pmon a < 256
unfolding joined_by
joined_byte pmon a h =
    turns_keep (λ (x : ℕ). x < 256) (join_after pmon) 7
    (λ n x m k. chosen (λ (y : ℕ). y < 256) (bit x n && bit pmon (n + 1)) (with_byte x (n + 1) true k (omega arith)) k) 7 a (omega arith) h

with_same : (x n : ℕ) → x < 256 → n < 8 → bit x n ≡ true → with_bit x n true ≡ x
with_same x n l m h =
    byte_ext (with_bit x n true) x (with_byte x n true l m) l
    (λ k b. elim (ℕ_discrete k n) [ yes p ↦ rw p (bit_here x n true ∙ sym h) | no p ↦ bit_there x n k true p ])

-- a set that no turn changes
joined_still : (pmon b : ℕ) → ((n : ℕ) → n < 7 → join_after pmon n b ≡ b) → joined_by pmon b ≡ b
unfolding joined_by
joined_still pmon b h = turns_keep (λ (x : ℕ). x ≡ b) (join_after pmon) 7 (λ n x l e. ap (join_after pmon n) e ∙ h n l) 7 b (omega arith) refl

-- the rule twice is the rule once
pub joined_twice : (pmon a : ℕ) → a < 256 → joined_by pmon (joined_by pmon a) ≡ joined_by pmon a
joined_twice pmon a h =
    let b = joined_by pmon a in
    joined_still pmon b
    (λ n l.
    tested (λ (x : ℕ). x ≡ b) (bit b n && bit pmon (n + 1))
    (λ e.
    let t = (itself (bit b n) and itself (bit pmon (n + 1))).sound e in
    with_same b (n + 1) (joined_byte pmon a h) (omega arith) (joined_closed pmon a n l t.0 t.1))
    (λ e. refl))

-- ---- how many they are

counted_is : (a n m : ℕ) → counted_in a n m ≡ m + digit a n
counted_is a n m =
    tested (λ (x : ℕ). x ≡ m + digit a n) (bit a n) (λ e. let f = eqb-true (digit a n) 1 e in omega arith) (λ e. let f = eqb-false (digit a n) 1 e in omega arith)

-- the lowest digit, and the others
counted_step : (a n : ℕ) → turns (counted_in a) (suc n) 0 ≡ a % 2 + turns (counted_in (a / 2)) n 0
unfolding turns
counted_step a zero = counted_is a 0 0 ∙ omega arith
counted_step a (suc n) =
    let i = counted_step a n in
    let e = counted_is (a / 2) n (turns (counted_in (a / 2)) n 0) in
    counted_is a (suc n) (turns (counted_in a) (suc n) 0) ∙ omega (arith, i, e, digit_half a n)

ones_counted : (w a : ℕ) → a < 2 ^ w → ones a ≡ turns (counted_in a) w 0
unfolding ones turns
ones_counted zero a l = let e : a ≡ 0 = omega arith in ap ones e
ones_counted (suc w) a l = ones_step a ∙ ap (λ (n : ℕ). a % 2 + n) (ones_counted w (a / 2) (omega arith)) ∙ sym (counted_step a w)

pub voices_ones : (a : ℕ) → a < 256 → ones a ≡ voices_in a
unfolding voices_in
voices_ones a l = ones_counted 8 a l
