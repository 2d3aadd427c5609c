-- The measure is the weight of what is left of the log.
use Rattle.std.proofs.Common.{sym, subst, arith}
use Rattle.bench.specs.Turn.{Fits}
use Rattle.bench.proofs.Turns.{fits}
use Rattle.bench.proofs.running.run.Goals as goal

pub put_out-requires : goal.put_out-requires
put_out-requires g c =
    let l = c.loop-part in
    let f = fits l.stage.dsp l.stage.at l.stage.left _ _ _ _ c.in_ok-part.ensures.0 in
    (subst (Fits c.in_ok-part.part.heard) (sym c.run_part.auto.pcm) f, omega (arith, l.invariant.2, l.invariant.3, c.requires))
