-- The callees, with the read-backs removed.
use mathlib.Core.Path.{ap, ◌∙◌}
use mir.Syntax.{w16}
use Rattle.numbers.proofs.Range.{landed}
use Rattle.dsp.specs.Sheet.{pair_bytes}
use Rattle.dsp.specs.Mix.{master_of}
use Rattle.dsp.specs.Echo.{echo_lane}
use Rattle.dsp.specs.Tick.{frame_of}
use Rattle.dsp.specs.Inside.{as_globals}
use Rattle.dsp.proofs.tick.Far.closed.Goals as goal

pub put_pair-requires : goal.put_pair-requires
put_pair-requires c = c.requires.2

pub returns : goal.returns
returns c = let a = c.args in
    let el = landed w16 {z = a.acc.echo_l} c.struct_told-1.given.1.1.1.0.1 in
    let er = landed w16 {z = a.acc.echo_r} c.struct_told-1.given.1.1.1.1.0.1 in
    let dl = landed w16 {z = a.acc.dry_l} c.struct_told-2-1.given.1.0.1 in
    let dr = landed w16 {z = a.acc.dry_r} c.struct_told-2-1.given.1.1.0.1 in
    let m = c.mastered-s in
    let y = c.echo_lane-e.ensures in
    let z = ◌∙◌ {a = y 0} {b = y 1} y (λ k. echo_lane a.echo (as_globals a.self.glob) a.taps a.self.left a.self.right a.ram.now (record { l = el k; r = er k }) a.slot.now) in
    let sl = landed w16 {z = m.result.l} c.struct_told-3-1.given.0.1 in
    let sr = landed w16 {z = m.result.r} c.struct_told-4-1.given.1.0.1 in
    (z, c.put_pair.ensures ∙ (λ k. pair_bytes (sl k) (sr k)) ∙ ap frame_of m.ensures ∙ (λ k. frame_of (master_of (z k).echo.globals (record { l = dl k; r = dr k }))))
