-- Unsigned 16-bit numbers: their halves, the sum that wraps, the least of two.
-- (A difference that stops at 0 is the subtraction of ℕ itself.)
use Rattle.std.specs.Prelude.{ℕ, ◌+◌, ◌*◌, ◌/◌, ◌%◌, if◌then◌else◌}
use Rattle.numbers.specs.Choice.{◌≤?◌}

-- x with another low byte, and with another high byte
abbrev pub with_low : ℕ → ℕ → ℕ
with_low x lo = x / 0x100 * 0x100 + lo

abbrev pub with_high : ℕ → ℕ → ℕ
with_high x hi = hi * 0x100 + x % 0x100

-- every sum of addresses is taken modulo 65,536
abbrev pub wrapped : ℕ → ℕ
wrapped a = a % 0x10000

abbrev pub least : ℕ → ℕ → ℕ
least a b =
    if a ≤? b then a else
    b
