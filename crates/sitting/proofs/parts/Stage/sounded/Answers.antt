-- The ticks over the front of the buffer, and a sheet that is kept aside. They are never refused.
use Rattle.std.proofs.Common.{◌≡◌, sym, ap, ◌∙◌, arith}
use lib.Seq.{length-take-le}
use Rattle.refusal.specs.Refusal.{number}
use Rattle.refusal.proofs.Numbers.{positive}
use Rattle.dsp.specs.Tick.{everything}
use Rattle.dsp.specs.Ticks.{Drove}
use Rattle.dsp.proofs.Batches.{driven}
use Rattle.sitting.proofs.Parting.{sound-is}
use Rattle.sitting.proofs.parts.Stage.sounded.Goals as goal

pub slice_bounds-ticks-end-2 : goal.slice_bounds-ticks-end-2
slice_bounds-ticks-end-2 c = sym (length-take-le _ _ (omega arith))

pub slice_bounds-ticks-end-3 : goal.slice_bounds-ticks-end-3
slice_bounds-ticks-end-3 c = sym (length-take-le _ _ (omega arith))

pub returns-in-Ok : goal.returns-in-Ok
returns-in-Ok c = let a = c.args in
    let p = c.requires in
    let x = c.in-Ok.ensures.0 in
    sound-is a.n a.self.dsp a.self.at a.self.left a.ram.now a.pcm.now _ (x 0) _ p.0 p.1 p.3 (length-take-le _ _ (omega (arith, p.4))) x c.told.ensures

pub returns-in-Err : goal.returns-in-Err
returns-in-Err c = let a = c.args in
    let p = c.requires in
    let z : number c.in-Err.e.refusal ≡ 0 =
    ap (λ (x : Drove). x.refusal) (c.in-Err.ensures.0 ∙ driven everything a.n a.self.dsp a.ram.now _ _ p.0 p.1 (length-take-le _ _ p.3) (length-take-le _ _ (omega (arith, p.4)))) in
    let n = positive c.in-Err.e.refusal in
    absurd (omega arith)
