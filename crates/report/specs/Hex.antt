-- Capital hex digits, in ASCII.
use Rattle.std.specs.Prelude.{ℕ, zero, suc, ◌+◌, ◌/◌, ◌%◌, List, [], ◌∷◌, ◌++◌, if◌then◌else◌}
use Rattle.numbers.specs.Choice.{◌<?◌}

abbrev pub capital : ℕ → ℕ
capital n =
    if n <? 10 then 0x30 + n else
    0x37 + n

-- a number in so many digits, the highest first
unfoldable pub in_hex : ℕ → ℕ → List ℕ
in_hex zero x = []
in_hex (suc width) x = in_hex width (x / 16) ++ (capital (x % 16) ∷ [])
