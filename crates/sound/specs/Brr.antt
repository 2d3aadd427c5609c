-- BRR: one nibble decoded.
use Rattle.std.specs.Prelude.{ℕ, ◌%◌, ◌^◌, ℤ, pos, ◌+ℤ◌, ◌-ℤ◌, ◌*ℤ◌, if◌then◌else◌}
use Rattle.numbers.specs.Choice.{◌≤?◌, ◌=?◌, ◌<ℤ?◌}
use Rattle.numbers.specs.Signed.{minus, neg, ◌>>◌, clamp16_z, cut_z}

-- shift up to 12 gives (n · 2^shift) >> 1; above, -2048 for negative n, else 0
abbrev pub scaled_z : ℤ → ℕ → ℤ
scaled_z n shift =
    if shift ≤? 12 then (n *ℤ pos (2 ^ shift)) >> 1 else
    if n <ℤ? pos 0 then minus 0x800 else
    pos 0

-- what a filter adds, of the two previous samples >> 1
abbrev pub filter_z : ℕ → ℤ → ℤ → ℤ
filter_z filter p1 p2 =
    if filter =? 0 then pos 0 else
    if filter =? 1 then p1 +ℤ (neg p1 >> 4) else
    if filter =? 2 then pos 2 *ℤ p1 +ℤ (neg (pos 3 *ℤ p1) >> 5) -ℤ p2 +ℤ (p2 >> 4) else
    pos 2 *ℤ p1 +ℤ (neg (pos 13 *ℤ p1) >> 6) -ℤ p2 +ℤ ((pos 3 *ℤ p2) >> 4)

-- the low 4 bits of n, sign-extended, and 2 of the filter count; clamp to 16 bits, double, wrap
abbrev pub decode_nibble : ℤ → ℕ → ℕ → ℤ → ℤ → ℤ
decode_nibble n shift filter prev1 prev2 =
    cut_z 0x8000 (pos 2 *ℤ clamp16_z (scaled_z (cut_z 8 n) shift +ℤ filter_z (filter % 4) (prev1 >> 1) (prev2 >> 1)))
