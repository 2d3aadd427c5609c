-- The sum of three, the fourth and the clamped sum are named; the ranges are computed.
use mathlib.Core.Path.{◌≡◌}
use Prim.Native.Nat.{ℕ, ◌+◌, ◌-◌, ◌/◌, ◌%◌, ◌<◌}
use lib.IntN.{ℤ, pos}
use lib.ListN.{get_or}
use lib.Signed.{mag}
use mir.Syntax.{w16, w32}
use mir.Val.{to_z, of_z}
use Rattle.numbers.proofs.Range.{Q, fits, reads, q_by, q_add, q_mul, q_shr, q_read, q_elem16}
use Rattle.numbers.proofs.Cut.{q_cut_z}
use Rattle.numbers.proofs.Clamp.{q_clamp16, calls}
use Rattle.sound.proofs.Weights.{q_weight}
use Rattle.dsp.specs.Interpolation.{tap_z}
use Rattle.dsp.proofs.gauss.Weights.interpolate.Goals.{After-cut16, After-tap-4, After-clamp16}
use Rattle.dsp.proofs.gauss.Weights.interpolate.Goals as goal

-- what a call gives for the index i and a sample as the machine reads it
abbrev q_tapped : (i : ℕ) (x : ℤ) {r : ℤ} → r ≡ tap_z i (to_z w16 (of_z w16 x)) → mag x < 0x8000 → Q r
q_tapped i x e h = q_by e (q_shr 2048 (q_mul (q_weight i) (q_read w16 (q_elem16 x h))))

abbrev first : (c : After-cut16) → Q c.cut16.result
first c =
    let a = c.args in
    let i = a.position / 16 % 256 in
    let x = q_tapped (255 - i) (get_or a.h 0 (pos 0)) c.tap.ensures c.tap-arg-1.given in
    let y = q_tapped (511 - i) (get_or a.h 1 (pos 0)) c.tap-2.ensures c.tap-arg-2-1.given in
    let z = q_tapped (i + 256) (get_or a.h 2 (pos 0)) c.tap-3.ensures c.tap-arg-3-1.given in
    q_by c.cut16.ensures (q_cut_z 0x8000 tt (q_read w32 (q_add (q_read w32 (q_add (q_read w32 x) (q_read w32 y))) (q_read w32 z))))

abbrev fourth : (c : After-tap-4) → Q c.tap-4.result
fourth c = let a = c.args in
    q_tapped (a.position / 16 % 256) (get_or a.h 3 (pos 0)) c.tap-4.ensures c.tap-arg-4-1.given

abbrev whole : (c : After-clamp16) → Q c.clamp16.result
whole c = let p = goal.at.After-clamp16 c in
    q_by c.clamp16.ensures (q_clamp16 (q_read w32 (q_add (q_read w32 (first p.After-cut16)) (q_read w32 (fourth p.After-tap-4)))))

pub overflow_add-first : goal.overflow_add-first
overflow_add-first c = fits (search (q_weight, calls, q_elem16) depth 20) tt

pub overflow_add-first-2 : goal.overflow_add-first-2
overflow_add-first-2 c = fits (search (q_weight, calls, q_elem16) depth 20) tt

pub overflow_add-cut16 : goal.overflow_add-cut16
overflow_add-cut16 c =
    let p = goal.at.overflow_add-cut16 c in
    let a = first p.After-cut16 in
    let b = fourth p.After-tap-4 in
    fits (search calls) tt

pub overflow_cast-result : goal.overflow_cast-result
overflow_cast-result c = let q = whole (goal.at.overflow_cast-result c).After-clamp16 in fits (search calls) tt

pub returns : goal.returns
returns c = let q = whole (goal.at.returns c).After-clamp16 in reads (search calls) tt
