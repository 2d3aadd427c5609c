-- The records of a part of a file, and how far they are equal.
use Rattle.std.specs.Prelude.{true, false, List, ◌≡◌, ℕ, zero, suc, ◌*◌, ◌/◌, ◌≤◌, ◌<◌, length, take, drop}
use Rattle.dsp.specs.Noise.{Noise}
use Rattle.replay.specs.Noise.{Check}
use Rattle.replay.specs.Leaves.{record_size, check_of}
use Rattle.replay.specs.declared.leaves.Leaf.{Leaf}

abbrev pub slice_at : Leaf → List ℕ → ℕ → List ℕ
slice_at leaf part k = take (record_size leaf) (drop (k * record_size leaf) part)

module _ (leaf : Leaf) (part : List ℕ) (carry : Noise) where
  -- what record k is handed
  unfoldable pub handed_to : ℕ → Noise
  handed_to zero = carry
  handed_to (suc k) = (check_of leaf (slice_at leaf part k) (handed_to k)).carry

  unfoldable pub check_at : ℕ → Check
  check_at k = check_of leaf (slice_at leaf part k) (handed_to k)

  -- the first record that differs is number n, from 0; or all of them are equal. It is handed h
  pub record IsFront (n : ℕ) (h : Noise) : Type 0 where
    pub within : n ≤ length part / record_size leaf
    pub before : (k : ℕ) → k < n → (check_at k).equal ≡ true
    pub differs : n < length part / record_size leaf → (check_at n).equal ≡ false
    pub handed : h ≡ handed_to n
