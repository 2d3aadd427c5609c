-- The digits that are left, with those that are written behind them, are the number.
use Rattle.std.proofs.Common.{◌≡◌, ◌≤◌, ◌++◌, length, drop}
use Rattle.report.specs.Hex.{in_hex}
use Rattle.report.proofs.lines.digits_of.Given as goal

abbrev pub invariant-loop-i : goal.invariant-loop-i
invariant-loop-i l = (l.i ≤ 16) × (length l.text ≡ 16) × (in_hex l.i l.rest ++ drop l.i l.text ≡ in_hex 16 l.sum)
