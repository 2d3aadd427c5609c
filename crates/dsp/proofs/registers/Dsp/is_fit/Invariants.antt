-- After n turns the numbers, the first n voices and the first n delays are tested.
use mathlib.Core.Path.{◌≡◌}
use Rattle.dsp.proofs.Rules.{fit_up_to}
use Rattle.dsp.proofs.registers.Dsp.is_fit.Given as goal

abbrev pub invariant-loop-n : goal.invariant-loop-n
invariant-loop-n l = l.ok ≡ fit_up_to l.self l.n
