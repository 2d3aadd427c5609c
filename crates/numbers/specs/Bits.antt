-- The bits of a byte.
use Rattle.std.specs.Prelude.{ℕ, ◌+◌, ◌-◌, ◌*◌, ◌/◌, ◌%◌, ◌^◌, Bool, if◌then◌else◌}
use Rattle.numbers.specs.Choice.{◌=?◌}

-- bit n
abbrev pub bit : ℕ → ℕ → Bool
bit x n = x / 2 ^ n % 2 =? 1

-- a byte with bit n as given: what it has there is taken away, and 2 ^ n added where it is on
unfoldable pub with_bit : ℕ → ℕ → Bool → ℕ
with_bit x n on = x - x / 2 ^ n % 2 * 2 ^ n + (if on then 2 ^ n else 0)
