-- What is left from a place on is the same where the whole is.
use mathlib.Core.Path.{◌≡◌}
use lib.ListN.{drop}
use Rattle.wav.specs.Wav.{same_bytes}
use Rattle.wav.proofs.same.Given as goal

abbrev pub invariant-loop-at : goal.invariant-loop-at
invariant-loop-at l = same_bytes (drop l.at l.front) (drop l.at l.header) ≡ same_bytes l.front l.header
