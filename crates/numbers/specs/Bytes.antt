-- Rows of bytes.
use Rattle.std.specs.Prelude.{ℕ, List, ◌++◌, length, take, drop}

-- one row copied over another: as many bytes as both have are the first one's, what the other has behind them stays
abbrev pub copied : List ℕ → List ℕ → List ℕ
copied from to = take (length to) from ++ drop (length from) to
