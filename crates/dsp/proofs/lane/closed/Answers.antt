-- The callees, with the read-backs removed; the store of OUTX leaves the ENDX byte.
use native.Mathlib.Nat.{mod-eq_of_lt}
use native.Mathlib.Omega.{arith}
use Prim.Native.Nat.{◌+◌, ◌*◌}
use lib.Seq.{get_or-set_other}
use mir.Syntax.{w8}
use mir.Facts.{to_z-of_z}
use Rattle.numbers.proofs.Range.{landed}
use Rattle.dsp.proofs.Ticks.{heard-bit}
use Rattle.dsp.proofs.lane.closed.Goals as goal

pub returns : goal.returns
returns c = let s = c in
    let a = s.args in
    let out = to_z-of_z s.ranges.out in
    let endx = rw (mod-eq_of_lt s.requires.1) at c.bit.ensures in
    let eon = rw (mod-eq_of_lt s.requires.1) at c.bit-2.ensures in
    let kept = get_or-set_other a.bytes.now (a.j * 16 + 9) 0x7C c.high.result 0 (λ e. omega (arith, e)) in
    let l = landed w8 {z = a.d.left_vol} c.struct_told-1.given.0.1 in
    let r = landed w8 {z = a.d.right_vol} c.struct_told-2-1.given.1.0.1 in
    (rw (c.high.ensures, out), rw (c.put_slot.ensures, endx, kept, out), rw (c.added.ensures, eon, heard-bit a.c.echo a.c.eon a.j, out, l, r))
