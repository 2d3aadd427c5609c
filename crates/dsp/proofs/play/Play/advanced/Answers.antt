-- The room that the block leaves, the samples that are taken of it, and the callees. The position never goes back.
use Rattle.std.proofs.Common.{if◌then◌else◌}
use borrow.Author.Rules.{rules}
use borrow.Author.Tests.{eq-eqb, ne_eqb, le-leb}
use mathlib.Core.Path.{◌≡◌, refl, sym, ◌∙◌}
use Prim.Native.Nat.{ℕ, ◌-◌, ◌/◌, ◌%◌, ◌≤◌}
use native.Mathlib.Omega.{arith}
use Rattle.numbers.specs.Choice.{◌≤?◌, ◌=?◌}
use Rattle.numbers.specs.Unsigned.{least}
use Rattle.numbers.proofs.Choice.{chosen, least_top, least-both}
use Rattle.dsp.specs.With.{with_position}
use Rattle.dsp.specs.Voice.{position_of, samples_taken}
use Rattle.dsp.specs.Inside.{as_source, as_sounding, pushed_on, room_of}
use Rattle.dsp.proofs.Pitch.{position_least}
use Rattle.dsp.proofs.Plays.{pitched, Sixteen, history_read, play-at, left_over}
use Rattle.dsp.proofs.play.Play.advanced.Goals as goal
use Rattle.dsp.proofs.play.Play.advanced.Goals.{then-fill-eq0, else-fill-eq0, then-due, else-due}

abbrev room : ℕ → ℕ → ℕ
room fill index = if fill =? 0 then 0 else 16 - index

pub overflow_sub-n : goal.overflow_sub-n
overflow_sub-n c = let a = c.args in
    let v = with_position (pitched a.pitch) a.self.pitch_counter in
    let e : c.position_of-at.result ≡ position_of (as_source a.source) v = c.position_of-at.ensures v refl refl in
    omega (arith, position_least (as_source a.source) v)

pub heard-q-requires : goal.heard-q-requires
heard-q-requires c =
    let room_is : c.if-fill-eq0.room ≡ room c.args.fill c.args.self.nibble_idx = (elim c.if-fill-eq0.branch [ then-fill-eq0 w ↦ w.room-is ∙ rw (eq-eqb _ _ w.if-fill-eq0.true) | else-fill-eq0 w ↦ w.room-is ∙ rw (ne_eqb _ _ w.if-fill-eq0.false) ]) in
    let count : ℕ = (c.position_of-at.result / 0x1000 - c.args.self.pitch_counter % 0x4000 / 0x1000) in
    let take-is : c.if-due.take ≡ least count c.if-fill-eq0.room = (let n = count in
    let r = c.if-fill-eq0.room in
    elim c.if-due.branch [ then-due w ↦ w.take-is ∙ sym (least_top n r w.if-due.true) | else-due w ↦ let l : n ≤ r = omega (arith, w.if-due.false) in w.take-is ∙ rw (le-leb n r l) ]) in
    let take_le : (c.if-due.take ≤ count) × (c.if-due.take ≤ c.if-fill-eq0.room) = (let h = least-both count c.if-fill-eq0.room in rw take-is (h.0, h.1)) in
    let k = c.args.self.nibble_idx in
    let l : room c.args.fill k ≤ 16 - k = chosen (λ (m : ℕ). m ≤ 16 - k) (c.args.fill =? 0) (omega arith) (omega arith) in
    omega (arith, take_le.1, room_is)

pub overflow_sub-result : goal.overflow_sub-result
overflow_sub-result c =
    let count : ℕ = (c.position_of-at.result / 0x1000 - c.args.self.pitch_counter % 0x4000 / 0x1000) in
    let take-is : c.if-due.take ≡ least count c.if-fill-eq0.room = (let n = count in
    let r = c.if-fill-eq0.room in
    elim c.if-due.branch [ then-due w ↦ w.take-is ∙ sym (least_top n r w.if-due.true) | else-due w ↦ let l : n ≤ r = omega (arith, w.if-due.false) in w.take-is ∙ rw (le-leb n r l) ]) in
    let take_le : (c.if-due.take ≤ count) × (c.if-due.take ≤ c.if-fill-eq0.room) = (let h = least-both count c.if-fill-eq0.room in rw take-is (h.0, h.1)) in
    take_le.0

pub returns : goal.returns
unfolding samples_taken
returns c v e f endx pitch fill =
    let sixteen : Sixteen c.args.self = (search rules) in
    let count : ℕ = (c.position_of-at.result / 0x1000 - c.args.self.pitch_counter % 0x4000 / 0x1000) in
    let room_is : c.if-fill-eq0.room ≡ room c.args.fill c.args.self.nibble_idx = (elim c.if-fill-eq0.branch [ then-fill-eq0 w ↦ w.room-is ∙ rw (eq-eqb _ _ w.if-fill-eq0.true) | else-fill-eq0 w ↦ w.room-is ∙ rw (ne_eqb _ _ w.if-fill-eq0.false) ]) in
    let take-is : c.if-due.take ≡ least count c.if-fill-eq0.room = (let n = count in
    let r = c.if-fill-eq0.room in
    elim c.if-due.branch [ then-due w ↦ w.take-is ∙ sym (least_top n r w.if-due.true) | else-due w ↦ let l : n ≤ r = omega (arith, w.if-due.false) in w.take-is ∙ rw (le-leb n r l) ]) in
    let a = c.args in
    let x = as_source a.source in
    let s = as_sounding v e a.self f a.samples.now endx in
    let t = c.position_of-at.ensures s.voice pitch refl in
    let n : count ≡ samples_taken x s.voice = λ i. t i / 0x1000 - a.self.pitch_counter % 0x4000 / 0x1000 in
    let r : c.if-fill-eq0.room ≡ room_of s = room_is ∙ (λ i. room (sym fill i) a.self.nibble_idx) in
    let g = take-is ∙ (λ i. least (n i) (r i)) in
    let h = history_read a.self sixteen in
    let m = play-at v e f a.samples.now endx _ a.self (position_of x s.voice) refl refl t h in
    (c.heard-q.ensures v e f endx ∙ (λ i. pushed_on (g i) (m i)), λ i. r i ≤? n i, (λ i. n i - g i) ∙ left_over (samples_taken x s.voice) (room_of s))
