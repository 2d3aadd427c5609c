-- The entry of the lent table is the weight; the ranges are computed.
use mathlib.Core.Path.{◌≡◌}
use lib.IntN.{pos}
use lib.ListN.{get_or}
use Rattle.numbers.proofs.Range.{fits, reads, q_by, quotes}
use Rattle.sound.specs.Gauss.{weight_at}
use Rattle.sound.proofs.Weights.{entry, q_weight}
use Rattle.dsp.proofs.gauss.Weights.tap.Goals as goal

pub overflow_cast-result : goal.overflow_cast-result
overflow_cast-result c =
    let weight_is : get_or c.args.self.now.table c.args.i (pos 0) ≡ weight_at c.args.i = (entry _ _ c.args.self.now.whole) in
    let e = weight_is in fits (search (q_by, q_weight, quotes) depth 20) tt

pub overflow_cast-result-2 : goal.overflow_cast-result-2
overflow_cast-result-2 c = fits (search quotes) tt

pub overflow_mul-result : goal.overflow_mul-result
overflow_mul-result c =
    let weight_is : get_or c.args.self.now.table c.args.i (pos 0) ≡ weight_at c.args.i = (entry _ _ c.args.self.now.whole) in
    let e = weight_is in fits (search (q_by, q_weight, quotes) depth 20) tt

pub returns : goal.returns
returns c =
    let weight_is : get_or c.args.self.now.table c.args.i (pos 0) ≡ weight_at c.args.i = (entry _ _ c.args.self.now.whole) in
    let e = weight_is in reads (search (q_by, q_weight, quotes) depth 20) tt
