-- RAM: bytes at addresses that wrap, and the directory of samples.
use Rattle.std.specs.Prelude.{List, [], ◌∷◌, ℕ, ◌+◌, ◌*◌, get_or, set}
use Rattle.numbers.specs.Unsigned.{wrapped}

-- every byte address in RAM wraps at 65,536
unfoldable pub byte_at : List ℕ → ℕ → ℕ
byte_at ram a = get_or ram (wrapped a) 0

-- 16 bits, low byte first
unfoldable pub word_at : List ℕ → ℕ → ℕ
word_at ram a = byte_at ram a + 0x100 * byte_at ram (a + 1)

-- bytes stored one behind another from an address on
unfoldable pub stored_from : ℕ → List ℕ → List ℕ → List ℕ
stored_from a [] ram = ram
stored_from a (x ∷ xs) ram = stored_from (a + 1) xs (set ram (wrapped a) x)

-- the directory entry of a source: DIR · 256 + SRCN · 4; start address, then loop address
abbrev pub entry_of : ℕ → ℕ → ℕ
entry_of dir srcn = dir * 0x100 + srcn * 4
