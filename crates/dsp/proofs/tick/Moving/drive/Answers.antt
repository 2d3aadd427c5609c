-- After v lanes the arrays stand for the definition's round after v turns; after i ticks they stand, with parts, samples and rows, for its bench
-- after i ticks. A turn's ways join behind the poll, behind the block change, and behind the step.
use Rattle.std.proofs.Common.{if◌then◌else◌}
use borrow.Author.Rules.{rules}
use mathlib.Core.Bool.{◌||◌}
use mathlib.Core.List.{[]}
use mathlib.Core.Path.{◌≡◌, refl, sym, ap, subst, ◌∙◌}
use Prim.Native.Nat.{ℕ, ◌+◌, ◌-◌, ◌*◌, ◌≤◌, ◌<◌}
use native.Mathlib.Omega.{arith}
use lib.IntN.{pos}
use mir.Syntax.{w16}
use mir.Val.{to_z, of_z, SFits}
use mir.Facts.{to_z-of_z}
use lib.ListN.{length, get_or, set, drop_of_length-le}
use lib.Seq.{get_or-set_same}
use borrow.Rule.Slice.PartMut.{mid_of}
use Rattle.numbers.proofs.Range.{landed}
use Rattle.numbers.proofs.Parts.{unwritten, sized, all_written}
use Rattle.numbers.specs.Bits.{bit}
use Rattle.sound.specs.Sound.{joined}
use Rattle.dsp.specs.Machine.{Globals}
use Rattle.dsp.specs.Fit.{FitGlobals, FitVoice}
use Rattle.dsp.specs.Mix.{scaled_output, master_of}
use Rattle.dsp.specs.Lane.{Sums, added}
use Rattle.dsp.specs.Echo.{EchoLane, echo_lane}
use Rattle.dsp.specs.Tick.{globals_tick, frame_of}
use Rattle.dsp.specs.Ticks.{Bench, ticks_of}
use Rattle.dsp.specs.Inside.{as_shared, as_sums, as_globals, no_envelope}
use Rattle.dsp.proofs.Fits.{adsr_fit}
use Rattle.dsp.proofs.Ticks.{globals-kept, bench-fit}
use Rattle.dsp.proofs.Drives.{round_of, Lanes, lanes_first, lane_shown, bench_at, tick_on}
use Rattle.dsp.proofs.Apart.{Arrays, arrays, voice_at, voices_from, voices-count, voice-at, parts_from}
use Rattle.dsp.proofs.Turning.{sample_now, lane_worked, not_polled, is_polled}
use Rattle.dsp.proofs.Stepping.{asked, either_off, Turn, behind_fit, index_fit, Waits, waited_low, skipped, idled, Advance, advance, rest_low, Taken, taken, taken_past, taken_low, sounded}
use Rattle.dsp.proofs.tick.Moving.drive.Goals.{Start, Joined-bit, After-advanced-b, Joined-b, Joined-wait-eq0, then-bit, else-bit, then-b, else-b, then-wait-eq0+then-p-off, then-wait-eq0+else-p-off, else-wait-eq0}
use Rattle.dsp.proofs.tick.Moving.drive.Goals as goal

-- the bench before the first tick
abbrev first : Start → Bench
first c =
    let a = c.args in
    bench_at (parts_from a.dials a.taps (arrays a.self.envelopes a.self.plays a.self.feeds a.currents.now a.store.now) a.delays.now a.bytes.now a.self.far) a.ram.now [] [] a.sheet.now

pub loop-i-init : goal.loop-i-init
unfolding ticks_of
loop-i-init c =
    let a = c.args in
    let p = c.requires in
    let h = p.5 in (
      search rules,
      record { envelopes = search rules; plays = search rules; feeds = search rules; currents = search rules; store = search rules },
      record {
        samples = [];
        rows = [];
        fit =
            record {
              ram = p.0;
              round = record { bytes = search rules; count = voices-count _ _; waits = search rules; voices = h.voices; delays = h.delays };
              globals = h.globals;
            };
        is = refl {a = first (goal.at.loop-i-init c).Start};
        put-out = unwritten _;
        shown = unwritten _;
      },
    )

pub shared-c-requires : goal.shared-c-requires
shared-c-requires c = subst (λ (g : Globals). g.noise.lfsr ≤ 0x7FFF) (sym c.ticked-f.ensures.0) (globals-kept _ c.loop-i.invariant.2.fit.globals).1.0

pub loop-v-init : goal.loop-v-init
loop-v-init c =
    let s = c.loop-i in
    let r = s.invariant.2.fit.round in
    let z = sized s.invariant.2.shown (omega arith) in
    let room : s.i * 36 ≤ length s.sheet = omega arith in
    (search rules, s.invariant.1, lanes_first _ _ _ s.sheet (s.i * 36) _ s.delays s.bytes (as_sums c.new-acc.result) room (record { bytes = r.bytes; count = r.count; waits = r.waits; voices = r.voices; delays = r.delays }))

pub loop-v-preserved-then-not-bit : goal.loop-v-preserved-then-not-bit
loop-v-preserved-then-not-bit c =
    let l = c.loop-v in
    let t : l.v < 8 = c.loop-v-test.true in
    let at = c.loop-i.i * 36 + l.v * 4 in
    let lent : length (mid_of at (at + 4 - at) l.sheet) ≡ 4 = search rules in
    let off = asked c.args.work.voices l.v t c.bit.ensures ∙ c.if-not-bit.true in
    let y = c.shown-acc.ensures in
    let w = voice-at c.args.dials (arrays l.envelopes l.plays l.feeds l.currents l.store) l.v t in
    let slot = mid_of at (at + 4 - at) l.sheet in (
      omega (arith, t),
      l.invariant.1,
      lane_shown _ _ _ _ (c.loop-i.i * 36) _ l.v l.sheet _ l.delays l.bytes (as_sums l.acc) at (at + 4) _ _ l.invariant.2 t refl refl lent off y.0
          (y.1 ∙ (λ k. added (bit (as_shared c.shared-c.result).eon l.v) (joined (get_or slot 0 0) (get_or slot 1 0)) (sym w k).left_vol (sym w k).right_vol (as_sums l.acc))),
    )

pub polled-t-requires : goal.polled-t-requires
polled-t-requires c =
    let v = c.loop-v.v in
    let t = c.loop-v-test.true in
    (t, (λ k. asked c.shared-c.result.koff v t c.bit-in-loop-v.ensures k || asked c.shared-c.result.kon v t c.bit-in-loop-v-2.ensures k) ∙ c.if-bit.true)

-- the arrays before a turn, and behind its poll
abbrev before : Joined-bit → Arrays
before c = let l = c.loop-v in arrays l.envelopes l.plays l.feeds l.currents l.store

abbrev behind : Joined-bit → Arrays
behind c = let p = c.if-bit in arrays p.envelopes p.plays p.feeds p.currents c.loop-v.store

-- what is known of voice v's turn behind its poll
turn : (c : Joined-bit) → Turn c.args.dials (as_shared c.shared-c.result) c.loop-v.v (before c) c.loop-v.delays c.loop-v.bytes (behind c) c.if-bit.delays c.if-bit.bytes
turn c =
    let l = c.loop-v in
    let d = c.args.dials in
    let s = as_shared c.shared-c.result in
    let t : l.v < 8 = c.loop-v-test.true in
    let f = l.invariant.2.fit in
    record {
      within = t;
      sized = l.invariant.1;
      waits = f.waits;
      bytes_sized = f.bytes;
      fit = subst FitVoice (voice-at d (before c) l.v t) (f.voices l.v);
      polled = elim c.if-bit.branch [
        | then-bit w ↦
            let r = w.polled-t.result in
            let y = w.polled-t.ensures in
            rw (w.envelopes-is, w.plays-is, w.feeds-is, w.currents-is, w.delays-is, w.bytes-is)
            (is_polled d s l.v (before c) l.delays l.bytes t l.invariant.1 r.envelope r.play r.feed _ _ _ y.0 y.1 y.2 y.3)
        | else-bit w ↦
            let n = either_off _ _ ((λ k. asked c.shared-c.result.koff l.v t c.bit-in-loop-v.ensures k || asked c.shared-c.result.kon l.v t c.bit-in-loop-v-2.ensures k) ∙ w.if-bit.false) in
            rw (w.envelopes-is, w.plays-is, w.feeds-is, w.currents-is, w.delays-is, w.bytes-is) (not_polled d s l.v (before c) l.delays l.bytes t l.invariant.1 n.0 n.1)
      ];
    }

pub update_envelope-h-requires : goal.update_envelope-h-requires
update_envelope-h-requires c = let p = (goal.at.update_envelope-h-requires c).Joined-bit in (c.requires.4 c.loop-v.v c.loop-v-test.true, adsr_fit (voice_at c.args.dials (behind p) c.loop-v.v) (behind_fit (turn p)))

pub advanced-b-requires : goal.advanced-b-requires
advanced-b-requires c = index_fit (turn (goal.at.advanced-b-requires c).Joined-bit)

-- what the advance gives, and the arrays behind a block change or none
begun : (c : After-advanced-b) → (let r = c.advanced-b.result in Advance (turn (goal.at.After-advanced-b c).Joined-bit) c.loop-i.ram c.loop-v.acc.prev c.update_envelope-h.result r.play r.due r.rest)
begun c =
    let r = c.advanced-b.result in
    let f : SFits w16 c.loop-v.acc.prev = search rules in
    advance (turn (goal.at.After-advanced-b c).Joined-bit) c.loop-i.ram c.loop-v.acc.prev c.update_envelope-h.result r.play r.due r.rest (to_z-of_z f) c.source_of.ensures c.advanced-b.ensures

taken_now : (c : Joined-b)
    → (let b = c.if-b in
    Taken (turn (goal.at.Joined-b c).Joined-bit) c.loop-i.ram c.loop-v.acc.prev c.update_envelope-h.result (arrays b.envelopes b.plays b.feeds c.if-bit.currents b.store) b.bytes)
taken_now c =
    let q = turn (goal.at.Joined-b c).Joined-bit in
    let b = begun (goal.at.Joined-b c).After-advanced-b in
    elim c.if-b.branch [
      | then-b w ↦
          let r = w.changed-t.result in
          let n = w.changed-t.new in
          rw (w.envelopes-is, w.plays-is, w.feeds-is, w.store-is, w.bytes-is)
          (taken_past q c.loop-i.ram c.loop-v.acc.prev c.update_envelope-h.result b r.envelope r.play r.feed n.samples n.bytes w.if-b.true w.changed-t.ensures)
      | else-b w ↦ rw (w.envelopes-is, w.plays-is, w.feeds-is, w.store-is, w.bytes-is) (taken q c.loop-i.ram c.loop-v.acc.prev c.update_envelope-h.result b w.if-b.false)
    ]

pub changed-t-requires : goal.changed-t-requires
changed-t-requires c =
    (search rules, search rules, rest_low (turn (goal.at.changed-t-requires c).Joined-bit) c.loop-i.ram c.loop-v.acc.prev c.update_envelope-h.result (begun (goal.at.changed-t-requires c).After-advanced-b))

pub overflow_cast-bytes : goal.overflow_cast-bytes
overflow_cast-bytes c =
    let l = taken_low (turn (goal.at.overflow_cast-bytes c).Joined-bit) c.loop-i.ram c.loop-v.acc.prev c.update_envelope-h.result c.update_envelope-h.ensures _ _ (taken_now (goal.at.overflow_cast-bytes c).Joined-b) in
    omega (arith, l)

-- the arrays behind its step, in which it sounds, is idle, or waits
step : (c : Joined-wait-eq0) → (let y = c.if-wait-eq0 in Waits (turn (goal.at.Joined-wait-eq0 c).Joined-bit) c.loop-i.ram c.loop-v.acc.prev (arrays y.envelopes y.plays y.feeds y.currents y.store) y.delays y.bytes)
step c =
    let q = turn (goal.at.Joined-wait-eq0 c).Joined-bit in
    let ram = c.loop-i.ram in
    let prev = c.loop-v.acc.prev in
    elim c.if-wait-eq0.branch [
      | then-wait-eq0+then-p-off w ↦
          let h = w.update_envelope-h.result in
          let r = w.advanced-b.result in
          let y = w.if-b in
          let f : SFits w16 prev = search rules in
          let b = advance q ram prev h r.play r.due r.rest (to_z-of_z f) w.source_of.ensures w.advanced-b.ensures in
          let s : Taken q ram prev h (arrays y.envelopes y.plays y.feeds c.if-bit.currents y.store) y.bytes = elim y.branch [
            | then-b u ↦
                let r = u.changed-t.result in
                let n = u.changed-t.new in
                rw (u.envelopes-is, u.plays-is, u.feeds-is, u.store-is, u.bytes-is) (taken_past q ram prev h b r.envelope r.play r.feed n.samples n.bytes u.if-b.true u.changed-t.ensures)
            | else-b u ↦ rw (u.envelopes-is, u.plays-is, u.feeds-is, u.store-is, u.bytes-is) (taken q ram prev h b u.if-b.false)
          ] in
          rw (w.envelopes-is, w.plays-is, w.feeds-is, w.currents-is, w.store-is, w.delays-is, w.bytes-is)
          (sounded q ram prev h w.update_envelope-h.ensures _ _ s w.off.result _ w.if-wait-eq0.true w.off.ensures w.if-p-off.true (landed w16 w.sounded.type_inv ∙ w.sounded.ensures))
      | then-wait-eq0+else-p-off w ↦
          rw (w.envelopes-is, w.plays-is, w.feeds-is, w.currents-is, w.store-is, w.delays-is, w.bytes-is)
          (idled q ram prev w.update_envelope-h.result w.off.result w.if-wait-eq0.true w.update_envelope-h.ensures w.off.ensures w.if-p-off.false)
      | else-wait-eq0 w ↦ rw (w.envelopes-is, w.plays-is, w.feeds-is, w.currents-is, w.store-is, w.delays-is, w.bytes-is) (skipped q ram prev w.if-wait-eq0.false)
    ]

pub scaled-out-requires : goal.scaled-out-requires
scaled-out-requires c = waited_low (turn (goal.at.scaled-out-requires c).Joined-bit) c.loop-i.ram c.loop-v.acc.prev _ _ _ (step (goal.at.scaled-out-requires c).Joined-wait-eq0)

pub loop-v-preserved : goal.loop-v-preserved
loop-v-preserved c =
    let l = c.loop-v in
    let v = l.v in
    let t : v < 8 = c.loop-v-test.true in
    let at = c.loop-i.i * 36 + v * 4 in
    let s = as_shared c.shared-c.result in
    let b = c.if-wait-eq0 in
    let a = arrays b.envelopes b.plays b.feeds b.currents b.store in
    let h = step (goal.at.loop-v-preserved c).Joined-wait-eq0 in
    let y = c.closed-acc.ensures in
    let lent : length (mid_of at (at + 4 - at) l.sheet) ≡ 4 = search rules in
    let on = asked c.args.work.voices v t c.bit.ensures ∙ c.if-not-bit.false in
    let noise : SFits w16 c.shared-c.result.noise = search rules in
    let old : SFits w16 (get_or b.currents v (pos 0)) = search rules in
    let x = to_z w16 (of_z w16 c.noised.result) in
    let new : SFits w16 (get_or (set b.currents v x) v (pos 0)) = search rules in
    let e : x ≡ sample_now s v a = landed w16 c.noised.type_inv ∙ c.noised.ensures ∙ (λ k. if sym (asked c.shared-c.result.non v t c.bit-in-loop-v-3.ensures) k then to_z-of_z noise k else to_z-of_z old k) in
    let g = get_or b.envelopes v no_envelope in
    let out = landed w16 c.scaled-out.type_inv ∙ c.scaled-out.ensures ∙ ap (scaled_output g.phase g.level) (to_z-of_z new ∙ get_or-set_same b.currents v x (pos 0) (omega (arith, h.sized.currents)) ∙ e) in
    let z =
    lane_worked c.args.dials c.args.work.voices s c.loop-i.ram _ (c.loop-i.i * 36) _ v l.sheet (before (goal.at.loop-v-preserved c).Joined-bit) l.delays l.bytes (as_sums l.acc) at (at + 4) a b.delays b.bytes _ _ (as_sums c.closed-acc.result) _ _ l.invariant.2 t refl refl lent on l.invariant.2.fit.bytes h e out y.0 y.1 y.2 in
    (omega (arith, t), z.0, z.1)

pub closed-f-requires : goal.closed-f-requires
closed-f-requires c = (search rules, subst FitGlobals (sym c.ticked-f.ensures.0) (globals-kept _ c.loop-i.invariant.2.fit.globals), search rules, search rules)

pub loop-i-preserved : goal.loop-i-preserved
unfolding globals_tick
loop-i-preserved c =
    let s = c.loop-i in
    let l = c.loop-v in
    let w = c.args.work in
    let sh = as_shared c.shared-c.result in
    let dials = c.args.dials in
    let y = c.closed-f.ensures in
    let a = s.i * 36 + 32 in
    let o = s.i * 4 in
    let lent : length (mid_of a (a + 4 - a) l.sheet) ≡ 4 = search rules in
    let voices = voices_from dials (arrays l.envelopes l.plays l.feeds l.currents l.store) in
    let old = voices_from dials (arrays s.envelopes s.plays s.feeds s.currents s.store) in
    let v : l.v ≡ 8 = omega (arith, c.loop-v-test.false, l.invariant.0) in
    let L : Sums → ℕ → Type 0 = λ (q : Sums) (k : ℕ). Lanes w.voices sh s.ram s.sheet (s.i * 36) (round_of old s.delays s.bytes q []) k l.sheet voices l.delays l.bytes (as_sums l.acc) in
    let z = subst (λ (q : Sums). L q 8) c.new-acc.ensures (subst (L (as_sums c.new-acc.result)) v l.invariant.2) in
    let x = y.0 ∙ (λ k. echo_lane w.echo (as_globals c.ticked-f.result.glob) c.args.taps (c.ticked-f.ensures.1 k) (c.ticked-f.ensures.2 k) s.ram (as_sums l.acc).input (mid_of a (a + 4 - a) l.sheet)) in
    let h = c.shared-c.ensures s.bytes refl refl (ap (λ (g : Globals). g.noise) c.ticked-f.ensures.0) in (
      search rules,
      l.invariant.1,
      tick_on w _ _ (first (goal.at.loop-i-preserved c).Start) s.i s.pcm s.sheet _ s.ram _ sh l.sheet voices l.delays l.bytes (as_sums l.acc) a (a + 4) o (o + 4) _ _ s.invariant.2 c.ticked-f.ensures.0 h z refl refl lent x refl refl (y.1 ∙ ap (λ (e : EchoLane). frame_of (master_of e.echo.globals (as_sums l.acc).dry)) (sym y.0)),
    )

pub returns : goal.returns
returns c =
    let l = c.loop-i in
    let d = l.invariant.2 in
    let a = c.args in
    let n : l.i ≡ a.n = omega arith in
    let pcm : l.i * 4 ≡ length a.pcm.now = omega arith in
    let sheet : l.i * 36 ≡ length a.sheet.now = omega arith in
    let parts = parts_from a.dials a.taps (arrays l.envelopes l.plays l.feeds l.currents l.store) l.delays l.bytes l.f in
    let is : bench_at parts l.ram l.pcm l.sheet [] ≡ ticks_of a.work l.i (first (goal.at.returns c).Start) =
    subst (λ (b : Bench). b ≡ ticks_of a.work l.i (first (goal.at.returns c).Start)) (λ k. bench_at parts l.ram (sym (all_written d.put-out pcm) k) (sym (all_written d.shown sheet) k) (drop_of_length-le a.sheet.now {i = l.i * 36} (omega arith) k)) d.is in (
      is ∙ (λ k. ticks_of a.work (n k) (bench_at (parts_from a.dials a.taps (arrays a.self.envelopes a.self.plays a.self.feeds a.currents.now a.store.now) a.delays.now a.bytes.now a.self.far) a.ram.now [] [] a.sheet.now)),
      bench-fit _ d.fit,
      l.invariant.1.envelopes,
      l.invariant.1.plays,
      l.invariant.1.feeds,
    )
