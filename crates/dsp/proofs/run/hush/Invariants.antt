-- After so many turns the first envelopes are cut, and behind them the first plays have key_on clear; the rest is as it came.
use Rattle.dsp.specs.Inside.{cut_envelope, hushed_play, no_envelope, no_play}
use Rattle.dsp.proofs.Arrays.{Changed}
use Rattle.dsp.proofs.run.hush.Given as goal

abbrev pub invariant-loop-e : goal.invariant-loop-e
invariant-loop-e l = Changed no_envelope cut_envelope l.initial.e-items l.e-items l.e-index

abbrev pub invariant-loop-p : goal.invariant-loop-p
invariant-loop-p l = Changed no_play hushed_play l.initial.p-items l.p-items l.p-index
