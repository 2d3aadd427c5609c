-- After so many turns the first envelopes are cut, and behind them the first plays have key_on clear; the rest is as it came.
use borrow.Author.Rules.{rules}
use Rattle.dsp.proofs.Arrays.{none_changed, one_changed, all_changed}
use Rattle.dsp.proofs.run.hush.Goals as goal

pub loop-e-init : goal.loop-e-init
loop-e-init c = none_changed

pub loop-e-preserved : goal.loop-e-preserved
loop-e-preserved c = one_changed c.loop-e.invariant (search rules) (search rules)

pub loop-p-init : goal.loop-p-init
loop-p-init c = none_changed

pub loop-p-preserved : goal.loop-p-preserved
loop-p-preserved c = one_changed c.loop-p.invariant (search rules) (search rules)

pub returns : goal.returns
returns c = (all_changed c.loop-e.invariant (search rules), all_changed c.loop-p.invariant (search rules))
