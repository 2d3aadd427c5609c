-- What both cuts give is named; the ranges are computed.
use mathlib.Core.Path.{refl}
use native.Mathlib.Nat.{le_refl}
use mir.Syntax.{w16, w32}
use Rattle.numbers.proofs.Range.{Q, fits, reads, q_is, q_by, q_add, q_read, q_call}
use Rattle.numbers.proofs.Cut.{q_cut_z}
use Rattle.numbers.proofs.Clamp.{q_clamp16, calls}
use Rattle.sound.specs.Sound.{fir_of}
use Rattle.sound.proofs.Filter.{q_tapped}
use Rattle.sound.proofs.fir.Goals as goal

pub overflow_add-seven : goal.overflow_add-seven
overflow_add-seven c =
    let q_seven : Q c.cut16-seven.result = (let s = c.fir_sum in
    let q = q_call 0x80000000 s.ensures s.type_inv (q_is _ _ refl (le_refl _)) in
    q_by c.cut16-seven.ensures (q_cut_z 0x8000 tt (q_read w32 q))) in
    let q_eighth : Q c.cut16-eighth.result = (let a = c.args in
    let q = q_tapped a.h a.taps 7 c.fir_tap.ensures c.fir_tap-arg-1.given c.fir_tap-arg-2-1.given in
    q_by c.cut16-eighth.ensures (q_cut_z 0x8000 tt (q_read w32 q))) in
    let a = q_seven in let b = q_eighth in fits (search calls depth 9) tt

pub overflow_cast-clamp16 : goal.overflow_cast-clamp16
overflow_cast-clamp16 c =
    let q_seven : Q c.cut16-seven.result = (let s = c.fir_sum in
    let q = q_call 0x80000000 s.ensures s.type_inv (q_is _ _ refl (le_refl _)) in
    q_by c.cut16-seven.ensures (q_cut_z 0x8000 tt (q_read w32 q))) in
    let q_eighth : Q c.cut16-eighth.result = (let a = c.args in
    let q = q_tapped a.h a.taps 7 c.fir_tap.ensures c.fir_tap-arg-1.given c.fir_tap-arg-2-1.given in
    q_by c.cut16-eighth.ensures (q_cut_z 0x8000 tt (q_read w32 q))) in
    let q_sum : Q c.clamp16.result = (let a = q_seven in
    let b = q_eighth in
    q_by c.clamp16.ensures (q_clamp16 (q_read w32 (q_add (q_read w32 a) (q_read w32 b))))) in
    let q = q_sum in fits (search calls) tt

pub returns : goal.returns
unfolding fir_of
returns c =
    let q_seven : Q c.cut16-seven.result = (let s = c.fir_sum in
    let q = q_call 0x80000000 s.ensures s.type_inv (q_is _ _ refl (le_refl _)) in
    q_by c.cut16-seven.ensures (q_cut_z 0x8000 tt (q_read w32 q))) in
    let q_eighth : Q c.cut16-eighth.result = (let a = c.args in
    let q = q_tapped a.h a.taps 7 c.fir_tap.ensures c.fir_tap-arg-1.given c.fir_tap-arg-2-1.given in
    q_by c.cut16-eighth.ensures (q_cut_z 0x8000 tt (q_read w32 q))) in
    let q_sum : Q c.clamp16.result = (let a = q_seven in
    let b = q_eighth in
    q_by c.clamp16.ensures (q_clamp16 (q_read w32 (q_add (q_read w32 a) (q_read w32 b))))) in
    let q = q_sum in
    reads (q_read w16 (q_call 0x8000 c.even.ensures c.even.type_inv (search calls depth 9))) tt
