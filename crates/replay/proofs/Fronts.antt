-- Laws of a part that is walked from the front, record by record.
use mathlib.Core.Bool.{true, false}
use mathlib.Core.List.{List}
use mathlib.Core.Path.{◌≡◌, refl, ap}
use Prim.Native.Nat.{ℕ, suc, ◌+◌, ◌-◌, ◌*◌, ◌/◌, ◌≤◌, ◌<◌}
use native.Mathlib.Nat.{mul-le-mul_right, div-mul-le_self, add-mul}
use native.Mathlib.Numerals.{add-one}
use native.Mathlib.Omega.{arith}
use lib.ListN.{length, take, drop}
use borrow.Author.Count.{below_more}
use Rattle.dsp.specs.Noise.{Noise}
use Rattle.replay.specs.Noise.{Check}
use Rattle.replay.specs.Leaves.{record_size, check_of}
use Rattle.replay.specs.Parts.{handed_to, check_at, IsFront}
use Rattle.replay.specs.declared.leaves.Leaf.{Leaf}

pub added : (a n : ℕ) → a + n - a ≡ n
added a n = omega arith

-- record k of size n lies within m bytes
pub room : (k n m : ℕ) → k < m / n → k * n + n ≤ m
room k n m h = let l : suc k * n ≤ m / n * n = mul-le-mul_right n h in omega (arith, div-mul-le_self m n, add-mul k 1 n)

module _ (leaf : Leaf) (part : List ℕ) (carry : Noise) where
  -- k records are equal, and h is handed to the next
  pub record UpTo (k : ℕ) (h : Noise) : Type 0 where
    pub before : (j : ℕ) → j < k → (check_at leaf part carry j).equal ≡ true
    pub handed : h ≡ handed_to leaf part carry k

  pub none : UpTo 0 carry
  unfolding handed_to
  none = record { before = λ j l. absurd (omega arith); handed = refl }

  module _ (k : ℕ) (h : Noise) (n : ℕ) (r : Check) (e : n ≡ record_size leaf) (u : UpTo k h)
      (c : r ≡ check_of leaf (take (k * n + n - k * n) (drop (k * n) part)) h) where
    is : r ≡ check_at leaf part carry k
    unfolding check_at
    is = cc (added (k * n) n)

    pub one_more : r.equal ≡ true → UpTo (k + 1) r.carry
    unfolding handed_to check_at
    one_more t =
        record {
          before = below_more _ _ u.before (rw (← is) t);
          handed = rw (add-one, is);
        }

    pub stops : k < length part / n → r.equal ≡ false → IsFront leaf part carry k h
    stops l t =
        record {
          within = rw (← e) (omega arith);
          before = u.before;
          differs = λ l. rw (← is) t;
          handed = u.handed;
        }

  pub ends : (k : ℕ) (h : Noise) (n : ℕ) → n ≡ record_size leaf → UpTo k h → k ≤ length part / n → length part / n ≤ k
      → IsFront leaf part carry k h
  ends k h n e u l g =
      let d = ap (λ (m : ℕ). length part / m) e in
      record { within = omega arith; before = u.before; differs = λ l. absurd (omega arith); handed = u.handed }
