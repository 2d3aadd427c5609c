-- The callees, with the read-backs removed.
use native.Mathlib.Nat.{mod-eq_of_lt}
use mir.Syntax.{w8, w16}
use Rattle.numbers.proofs.Range.{landed}
use Rattle.dsp.specs.Lane.{put_bytes}
use Rattle.dsp.proofs.Ticks.{heard-bit}
use Rattle.dsp.proofs.lane.shown.Goals as goal

pub returns : goal.returns
unfolding put_bytes
returns c = let s = c in
    let a = s.args in
    let j = c.joined-out in
    let out = landed w16 {z = j.result} j.type_inv in
    let eon = rw (mod-eq_of_lt s.requires.1) at c.bit.ensures in
    let l = landed w8 {z = a.d.left_vol} c.struct_told-1.given.0.1 in
    let r = landed w8 {z = a.d.right_vol} c.struct_told-2-1.given.1.0.1 in
    (rw (c.put_endx.ensures, c.high.ensures, out, j.ensures), rw (c.added.ensures, eon, heard-bit a.c.echo a.c.eon a.j, out, j.ensures, l, r))
