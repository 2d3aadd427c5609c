-- The interpolation table: that it never decreases and stays within 0 to 1833 is computed once, over the whole table,
-- and carried from there to each index.
use mathlib.Core.Path.{◌≡◌, refl, ap}
use mathlib.Core.List.{List}
use Prim.Native.Nat.{ℕ, zero, suc, ◌+◌, ◌-◌, ◌<◌}
use native.Mathlib.Nat.{add-zero, add-suc}
use native.Mathlib.Omega.{arith}
use lib.IntN.{ℤ, pos}
use lib.ListN.{get_or}
use lib.Signed.{le_z, ◌≤ℤ◌, le_z_yes, ≤ℤ_refl}
use Rattle.numbers.proofs.Range.{Q, Within, q_at}
use Rattle.numbers.specs.Listed.{all}
use Rattle.numbers.proofs.Lists.{all-at}
use Rattle.numbers.proofs.Table.{table_within, order_at, ≤ℤ_trans}
use Rattle.sound.specs.Gauss.{weights, weight_at}

pub weight-within : (i : ℕ) → Within 1833 (weight_at i)
unfolding weight_at weights all
weight-within i = table_within 1833 weights refl i

pub weight-least : (i : ℕ) → pos 0 ≤ℤ weight_at i
unfolding weight_at weights all
weight-least i = le_z_yes (rw (all-at (le_z (pos 0)) (pos 0) weights refl refl i) tt)

pub weights_ordered : (i : ℕ) → suc i < 512 → weight_at i ≤ℤ weight_at (suc i)
unfolding weight_at weights
weights_ordered i h = order_at weights tt i h

abbrev pub q_weight : (i : ℕ) → Q (weight_at i)
q_weight i = q_at (weight_at i) 1833 (weight-within i)

-- an entry of a lent table that is this one
pub entry : (table : List ℤ) (i : ℕ) → table ≡ weights → get_or table i (pos 0) ≡ weight_at i
unfolding weight_at
entry table i e = ap (λ (t : List ℤ). get_or t i (pos 0)) e

-- ---- the order, from neighbours to any two entries, and to the four taps of an index

rises : (i k : ℕ) → i + k < 512 → weight_at i ≤ℤ weight_at (i + k)
rises i zero h = rw add-zero (≤ℤ_refl _)
rises i (suc k) h = rw add-suc (≤ℤ_trans (rises i k (omega arith)) (weights_ordered (i + k) (omega arith)))

-- an outer tap never outweighs the inner one on its side
pub taps_ordered : (i : ℕ) → i < 256 → (weight_at (255 - i) ≤ℤ weight_at (511 - i)) × (weight_at i ≤ℤ weight_at (i + 256))
taps_ordered i h =
    let z : 511 - i ≡ 255 - i + 256 = omega arith in
    (rw z (rises (255 - i) 256 (omega arith)), rises i 256 (omega arith))
