-- The bytes of a tick: its stereo sample in the PCM, and its row of 36 in the sheet (document 01, "Log, sheet, program").
use Rattle.std.specs.Prelude.{Bool, List, [], ◌∷◌, ℕ, ◌*◌, ℤ, take, drop, if◌then◌else◌}
use Rattle.numbers.specs.Signed.{low_z, high_z}

-- left, right, 16 bits, low byte first: a sample of the PCM, and the echo's lane of the sheet
unfoldable pub pair_bytes : ℤ → ℤ → List ℕ
pair_bytes l r = low_z l ∷ high_z l ∷ low_z r ∷ high_z r ∷ []

-- a voice's lane: the scaled output, 16 bits, low byte first; the ENVX register; the ENDX bit, 0 or 1
unfoldable pub lane_bytes : ℤ → ℕ → Bool → List ℕ
lane_bytes out envx endx = low_z out ∷ high_z out ∷ envx ∷ (if endx then 1 else 0) ∷ []

-- lane j of a row that stands at the front: voices 0 to 7, then the echo
abbrev pub lane_at : ℕ → List ℕ → List ℕ
lane_at j rows = take 4 (drop (j * 4) rows)
