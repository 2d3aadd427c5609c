-- The tests of numbers, by their signs.
use Rattle.std.specs.Prelude.{ℕ, Bool, ℤ, ◌==◌, int_lt, nat_le, nat_lt}

infix 40 ◌≤?◌ ◌<?◌ ◌=?◌ ◌<ℤ?◌
abbrev pub ◌≤?◌ : ℕ → ℕ → Bool
a ≤? b = nat_le a b

abbrev pub ◌<?◌ : ℕ → ℕ → Bool
a <? b = nat_lt a b

abbrev pub ◌=?◌ : ℕ → ℕ → Bool
a =? b = a == b

abbrev pub ◌<ℤ?◌ : ℤ → ℤ → Bool
a <ℤ? b = int_lt a b
