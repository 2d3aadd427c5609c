-- What is read: how many bytes of a buffer were taken, and the names of the RAM images. (Which bytes came is the operating system's.)
use Rattle.std.specs.Prelude.{ℕ, ◌+◌, Option, Some, None, List, [], ◌∷◌}
use Rattle.std.specs.Counts.{IsPrefixLen}

-- bytes at the start of the buffer, or that the read failed
abbrev pub Taken : Option ℕ → List ℕ → Type 0
Taken (Some n) buf = IsPrefixLen n buf
Taken None buf = Unit {0}

-- `ram0` to `ram9`, in ASCII
abbrev pub image_name : ℕ → List ℕ
image_name number = 0x72 ∷ 0x61 ∷ 0x6D ∷ (0x30 + number) ∷ []
