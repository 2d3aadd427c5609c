-- The 32 tick periods.
use Rattle.std.specs.Prelude.{List, [], ◌∷◌, ℕ, get_or}

-- ENVELOPE_RATE_TABLE
unfoldable pub periods : List ℕ
periods =
    0 ∷ 2048 ∷ 1536 ∷ 1280 ∷ 1024 ∷ 768 ∷ 640 ∷ 512 ∷ 384 ∷ 320 ∷ 256 ∷ 192 ∷ 160 ∷ 128 ∷ 96 ∷ 80
    ∷ 64 ∷ 48 ∷ 40 ∷ 32 ∷ 24 ∷ 20 ∷ 16 ∷ 12 ∷ 10 ∷ 8 ∷ 6 ∷ 5 ∷ 4 ∷ 3 ∷ 2 ∷ 1 ∷ []

unfoldable pub period_of : ℕ → ℕ
period_of entry = get_or periods entry 0
