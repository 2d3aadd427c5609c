-- After so many voices the sums are as many turns of the definition.
use mathlib.Core.Path.{◌≡◌}
use Rattle.dsp.specs.Inside.{as_stereo}
use Rattle.dsp.proofs.Outputs.{dry_up_to}
use Rattle.dsp.proofs.mix.dry.Given as goal

abbrev pub invariant-loop-v : goal.invariant-loop-v
invariant-loop-v l = as_stereo l.s ≡ dry_up_to l.v-items l.v-index
