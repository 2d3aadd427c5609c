-- The record is taken apart into arrays that stand for it (Made); each record of the log moves them on (Logs); where the log ends they are made
-- into a record again.
use borrow.Author.Rules.{rules}
use mathlib.Core.Bool.{◌&&◌}
use mathlib.Core.List.{List, []}
use mathlib.Core.Path.{◌≡◌, refl, sym, ap, subst, ◌∙◌}
use Prim.Native.Nat.{ℕ, ◌+◌, ◌*◌, ◌/◌, ◌<◌}
use native.Mathlib.Omega.{arith}
use lib.ListN.{length, length-map}
use borrow.Rule.Slice.PartMut.{mid_len}
use Rattle.numbers.specs.Choice.{◌=?◌, ◌≤?◌}
use Rattle.refusal.specs.Refusal.{number}
use Rattle.chip_log.specs.Log.{Off, next_of}
use Rattle.dsp.specs.Machine.{Parts, apart, together}
use Rattle.dsp.specs.Registers.{resets}
use Rattle.dsp.specs.Play.{starting}
use Rattle.dsp.specs.Inside.{as_globals, voices_in}
use Rattle.dsp.specs.declared.adsr.Envelope.{Envelope}
use Rattle.dsp.specs.declared.play.Play.{Play}
use Rattle.dsp.specs.declared.voice.Voice.{Voice}
use Rattle.dsp.proofs.Apart.{Arrays, arrays, parts_from}
use Rattle.dsp.proofs.Made.{histories, dials_wound, voices-again, stored-samples}
use Rattle.dsp.proofs.Ticks.{BenchFit, bench-fit}
use Rattle.dsp.proofs.Writes.{reset_tested}
use Rattle.dsp.proofs.Logs.{Playing, standing, bench_now, started, finished, found, on_write, on_ticks, on_reading}
use Rattle.dsp.proofs.run.play_all.Goals.{After-with_parts, in_default-via-in-Ok+in_default, in_default-via-in_default}
use Rattle.dsp.proofs.run.play_all.Goals as goal

pub dials_of-dials-requires : goal.dials_of-dials-requires
dials_of-dials-requires c = (λ j. rw c.lanes-voices.ensures (c.requires.1.voices j))

pub loop-found-init : goal.loop-found-init
loop-found-init c =
    let in_arrays : Arrays = (arrays c.envelopes_of-envelopes.result c.plays_of-plays.result c.feeds_of-feeds.result c.currents_of-currents.result c.store_of-store.result) in
    let taken : parts_from c.dials_of-dials.result c.taps-taps.result in_arrays c.delays-delays.result c.bytes-bytes.result c.far-f.result ≡ apart c.args.start = (let lanes = c.lanes-voices in
    let voices =
    (λ i. voices_in (c.dials_of-dials.ensures i) (c.envelopes_of-envelopes.ensures i) (c.plays_of-plays.ensures i) (c.feeds_of-feeds.ensures i) (c.currents_of-currents.ensures i) (c.store_of-store.ensures i))
    ∙ voices-again lanes.result lanes.type_inv.1.0.1 _ (histories lanes.result _ lanes.type_inv.1.1) (stored-samples lanes.result lanes.type_inv.1.0.1)
    ∙ lanes.ensures in
    λ i.
    record {
      registers = c.bytes-bytes.ensures i;
      voices = voices i;
      delays = c.delays-delays.ensures i;
      taps = c.taps-taps.ensures i;
      left = c.far-f.ensures.1 i;
      right = c.far-f.ensures.2 i;
      globals = c.far-f.ensures.0 i;
    }) in
    let p = taken in
    let a = c.args in
    let h = c.requires.1 in
    let fit : BenchFit (bench_now (apart a.start) a.ram.now a.pcm.now a.sheet.now 0) =
    record {
      ram = c.requires.0;
      round =
          record {
            bytes = subst (λ (l : List ℕ). length l ≡ 128) c.bytes-bytes.ensures c.bytes-bytes.type_inv.1.0.1;
            count = subst (λ (l : List Voice). length l ≡ 8) c.lanes-voices.ensures c.lanes-voices.type_inv.1.0.1;
            waits = subst (λ (l : List ℕ). length l ≡ 8) c.delays-delays.ensures c.delays-delays.type_inv.1.0.1;
            voices = h.voices;
            delays = h.delays;
          };
      globals = h.globals;
    } in
    record {
      sized = record { envelopes = c.envelopes_of-envelopes.type_inv.1.0.1; plays = c.plays_of-plays.type_inv.1.0.1; feeds = c.feeds_of-feeds.type_inv.1.0.1; currents = c.currents_of-currents.type_inv.1.0.1; store = c.store_of-store.type_inv.1.0.1 };
      count = c.dials_of-dials.type_inv.1.0.1;
      eight = c.taps-taps.type_inv.1.0.1;
      wound = λ j l. rw c.dials_of-dials.ensures (dials_wound c.lanes-voices.result c.lanes-voices.type_inv.1.0.1 j l);
      fit = subst (λ (y : Parts). BenchFit (bench_now y a.ram.now a.pcm.now a.sheet.now 0)) (sym p) fit;
      pcm-is = refl;
      sheet-is = refl;
      readings-is = refl;
      playing = subst (λ (y : Parts). Playing a.work a.log.now (starting a.start a.ram.now a.sheet.now) (standing y a.ram.now a.pcm.now a.sheet.now a.readings.now 0 0) 0 0 0) (sym p) (started a.work a.log.now (starting a.start a.ram.now a.sheet.now));
    }

pub shape_of-ram-in_default : goal.shape_of-ram-in_default
shape_of-ram-in_default c = c.loop-found.invariant.fit.ram ∙ sym c.requires.0

pub shape_of-pcm-in_default : goal.shape_of-pcm-in_default
shape_of-pcm-in_default c = c.loop-found.invariant.pcm-is

pub shape_of-sheet-in_default : goal.shape_of-sheet-in_default
shape_of-sheet-in_default c = c.loop-found.invariant.sheet-is

pub shape_of-readings-in_default : goal.shape_of-readings-in_default
shape_of-readings-in_default c = c.loop-found.invariant.readings-is

-- the log has ended
abbrev ends : After-with_parts → Type 0
ends c = (k : ℕ) × (next_of c.read.result ≡ Off k)

pub returns-in_default : goal.returns-in_default
returns-in_default c = let l = c.loop-found in
    let i = l.invariant in
    let off : ends c =
    elim c.in_default.branch [
      | in_default-via-in-Ok+in_default w ↦ (0, search rules)
      | in_default-via-in_default w ↦ (number w.in_default.field-0, rw w.in_default.is)
    ] in
    let parts = parts_from l.dials l.taps (arrays l.envelopes l.plays l.feeds l.currents l.store) l.delays l.bytes l.f in
    let made : c.with_parts.result ≡ together parts =
    c.with_parts.ensures
    ∙ (λ k. together (record { registers = l.bytes; voices = c.voices_of-after.ensures k; delays = l.delays; taps = l.taps; left = l.f.left; right = l.f.right; globals = as_globals l.f.glob })) in
    (λ k. record { bench = record { parts = apart (made k); ram = l.ram; pcm = l.pcm; sheet = l.sheet; old = [] }; readings = l.readings })
    ∙ finished l.pcm l.sheet l.readings c.requires.2 i.pcm-is i.sheet-is i.readings-is parts l.ram i.playing c.read.ensures.0 off.1

-- ---- a write

pub put_byte-requires : goal.put_byte-requires
put_byte-requires c = let k = found c.loop-found.invariant c.requires.2 c.read.ensures c.in-Ok-Some.is c.in-Ok-Some.field-0-is c.in-Write.is in
    let i = c.loop-found.invariant in (k.known, i.fit.round.bytes, i.eight)

pub bounds-dials-v : goal.bounds-dials-v
bounds-dials-v c = let k = found c.loop-found.invariant c.requires.2 c.read.ensures c.in-Ok-Some.is c.in-Ok-Some.field-0-is c.in-Write.is in
    let w = k.known in omega (arith, w)

pub write-e-requires : goal.write-e-requires
write-e-requires c = let k = found c.loop-found.invariant c.requires.2 c.read.ensures c.in-Ok-Some.is c.in-Ok-Some.field-0-is c.in-Write.is in
    let w = k.known in c.loop-found.invariant.wound (c.in-Write.register / 16) (omega (arith, w))

pub bounds-dials-v-in-Write : goal.bounds-dials-v-in-Write
bounds-dials-v-in-Write c = let k = found c.loop-found.invariant c.requires.2 c.read.ensures c.in-Ok-Some.is c.in-Ok-Some.field-0-is c.in-Write.is in
    let w = k.known in omega (arith, w)

-- ---- ticks

pub overflow_mul-from : goal.overflow_mul-from
overflow_mul-from c = let k = found c.loop-found.invariant c.requires.2 c.read.ensures c.in-Ok-Some.is c.in-Ok-Some.field-0-is c.in-Ticks.is in
    record { fits = omega (arith, k.few) }

pub overflow_mul-to : goal.overflow_mul-to
overflow_mul-to c = let k = found c.loop-found.invariant c.requires.2 c.read.ensures c.in-Ok-Some.is c.in-Ok-Some.field-0-is c.in-Ticks.is in
    record { fits = omega (arith, k.few) }

pub overflow_add-to : goal.overflow_add-to
overflow_add-to c = let k = found c.loop-found.invariant c.requires.2 c.read.ensures c.in-Ok-Some.is c.in-Ok-Some.field-0-is c.in-Ticks.is in
    record { fits = omega (arith, k.few) }

pub overflow_mul-row : goal.overflow_mul-row
overflow_mul-row c = let k = found c.loop-found.invariant c.requires.2 c.read.ensures c.in-Ok-Some.is c.in-Ok-Some.field-0-is c.in-Ticks.is in
    record { fits = omega (arith, k.few) }

pub overflow_mul-end : goal.overflow_mul-end
overflow_mul-end c = let k = found c.loop-found.invariant c.requires.2 c.read.ensures c.in-Ok-Some.is c.in-Ok-Some.field-0-is c.in-Ticks.is in
    record { fits = omega (arith, k.few) }

pub overflow_add-end : goal.overflow_add-end
overflow_add-end c = let k = found c.loop-found.invariant c.requires.2 c.read.ensures c.in-Ok-Some.is c.in-Ok-Some.field-0-is c.in-Ticks.is in
    record { fits = omega (arith, k.few) }

pub slice_bounds-drive-end : goal.slice_bounds-drive-end
slice_bounds-drive-end c = let k = found c.loop-found.invariant c.requires.2 c.read.ensures c.in-Ok-Some.is c.in-Ok-Some.field-0-is c.in-Ticks.is in
    k.samples

pub slice_bounds-drive-end-in-Ticks : goal.slice_bounds-drive-end-in-Ticks
slice_bounds-drive-end-in-Ticks c = let k = found c.loop-found.invariant c.requires.2 c.read.ensures c.in-Ok-Some.is c.in-Ok-Some.field-0-is c.in-Ticks.is in
    k.rows

pub drive-k-requires : goal.drive-k-requires
drive-k-requires c = let k = found c.loop-found.invariant c.requires.2 c.read.ensures c.in-Ok-Some.is c.in-Ok-Some.field-0-is c.in-Ticks.is in
    let l = c.loop-found in
    let i = l.invariant in
    let n = c.in-Ticks.count in (
      i.fit.ram,
      omega (arith, k.few),
      mid_len (l.ticks * 4) (l.ticks * 4 + n * 4) l.pcm k.samples ∙ omega arith,
      mid_len (l.ticks * 36) (l.ticks * 36 + n * 36) l.sheet k.rows ∙ omega arith,
      i.wound,
      bench-fit _ i.fit,
    )

pub overflow_add-ticks : goal.overflow_add-ticks
overflow_add-ticks c = let k = found c.loop-found.invariant c.requires.2 c.read.ensures c.in-Ok-Some.is c.in-Ok-Some.field-0-is c.in-Ticks.is in
    record { fits = omega (arith, k.few) }

-- ---- a reading

pub bounds-bytes-r : goal.bounds-bytes-r
bounds-bytes-r c = let k = found c.loop-found.invariant c.requires.2 c.read.ensures c.in-Ok-Some.is c.in-Ok-Some.field-0-is c.in-Reading.is in
    let w = k.known in omega (arith, w)

pub bounds-readings-said : goal.bounds-readings-said
bounds-readings-said c = let k = found c.loop-found.invariant c.requires.2 c.read.ensures c.in-Ok-Some.is c.in-Ok-Some.field-0-is c.in-Reading.is in
    omega (arith, k.said)

pub overflow_add-said : goal.overflow_add-said
overflow_add-said c = let k = found c.loop-found.invariant c.requires.2 c.read.ensures c.in-Ok-Some.is c.in-Ok-Some.field-0-is c.in-Reading.is in
    let few : length c.args.readings.now < 18446744073709551616 = (search rules) in
    let e = c.loop-found.invariant.readings-is in record { fits = omega (arith, k.said, e, few) }

-- ---- the loop goes on

pub loop-found-smaller-then-register-value : goal.loop-found-smaller-then-register-value
loop-found-smaller-then-register-value c = let k = found c.loop-found.invariant c.requires.2 c.read.ensures c.in-Ok-Some.is c.in-Ok-Some.field-0-is c.in-Write.is in
    let u = k.turned in omega arith

pub loop-found-preserved-then-register-value : goal.loop-found-preserved-then-register-value
loop-found-preserved-then-register-value c = let k = found c.loop-found.invariant c.requires.2 c.read.ensures c.in-Ok-Some.is c.in-Ok-Some.field-0-is c.in-Write.is in
    let i = c.loop-found.invariant in
    let l = c.loop-found in
    let p = c.put_byte in
    let small : c.in-Write.value < 256 = (search rules) in
    let reset : resets c.in-Write.register c.in-Write.value ≡ ((c.in-Write.register =? 0x6C) && (0x80 ≤? c.in-Write.value)) = (reset_tested c.in-Write.register _ small) in
    let y = c.hush-h.ensures in
    on_write i c.in-Write.register c.in-Write.value c.write-e.result p.new.taps (arrays c.hush-h.result.envelopes c.hush-h.result.plays l.feeds l.currents l.store) p.new.bytes c.write-f.result
    k.turned k.known small
    (record {
      envelopes = ap (λ (z : List Envelope). length z) y.0 ∙ simp length-map i.sized.envelopes;
      plays = ap (λ (z : List Play). length z) y.1 ∙ simp length-map i.sized.plays;
      feeds = i.sized.feeds;
      currents = i.sized.currents;
      store = i.sized.store;
    })
    (p.auto.taps ∙ i.eight) c.write-e.ensures p.ensures.0 p.ensures.1 c.write-f.ensures
    (rw (reset ∙ c.if-register-value.true) (λ j. arrays (y.0 j) (y.1 j) l.feeds l.currents l.store))

pub loop-found-smaller-else-register-value : goal.loop-found-smaller-else-register-value
loop-found-smaller-else-register-value c = let k = found c.loop-found.invariant c.requires.2 c.read.ensures c.in-Ok-Some.is c.in-Ok-Some.field-0-is c.in-Write.is in
    let u = k.turned in omega arith

pub loop-found-preserved-else-register-value : goal.loop-found-preserved-else-register-value
loop-found-preserved-else-register-value c = let k = found c.loop-found.invariant c.requires.2 c.read.ensures c.in-Ok-Some.is c.in-Ok-Some.field-0-is c.in-Write.is in
    let i = c.loop-found.invariant in
    let l = c.loop-found in
    let p = c.put_byte in
    let small : c.in-Write.value < 256 = (search rules) in
    let reset : resets c.in-Write.register c.in-Write.value ≡ ((c.in-Write.register =? 0x6C) && (0x80 ≤? c.in-Write.value)) = (reset_tested c.in-Write.register _ small) in
    on_write i c.in-Write.register c.in-Write.value c.write-e.result p.new.taps (arrays l.envelopes l.plays l.feeds l.currents l.store) p.new.bytes c.write-f.result
    k.turned k.known small i.sized (p.auto.taps ∙ i.eight) c.write-e.ensures p.ensures.0 p.ensures.1 c.write-f.ensures
    (rw (reset ∙ c.if-register-value.false))

pub loop-found-smaller-in-Ticks : goal.loop-found-smaller-in-Ticks
loop-found-smaller-in-Ticks c = let k = found c.loop-found.invariant c.requires.2 c.read.ensures c.in-Ok-Some.is c.in-Ok-Some.field-0-is c.in-Ticks.is in
    let u = k.turned in omega arith

pub loop-found-preserved-in-Ticks : goal.loop-found-preserved-in-Ticks
loop-found-preserved-in-Ticks c = let k = found c.loop-found.invariant c.requires.2 c.read.ensures c.in-Ok-Some.is c.in-Ok-Some.field-0-is c.in-Ticks.is in
    let i = c.loop-found.invariant in
    let d = c.drive-k in
    let e = d.ensures in
    let s = d.auto in
    on_ticks i c.in-Ticks.count _ _ _ _ _ _ _ k.turned
    (record { envelopes = e.2; plays = e.3; feeds = e.4; currents = search rules; store = search rules })
    k.samples k.rows s.pcm s.sheet e.0

pub loop-found-smaller : goal.loop-found-smaller
loop-found-smaller c = let k = found c.loop-found.invariant c.requires.2 c.read.ensures c.in-Ok-Some.is c.in-Ok-Some.field-0-is c.in-Reading.is in
    let u = k.turned in omega arith

pub loop-found-preserved : goal.loop-found-preserved
loop-found-preserved c = let k = found c.loop-found.invariant c.requires.2 c.read.ensures c.in-Ok-Some.is c.in-Ok-Some.field-0-is c.in-Reading.is in
    on_reading c.loop-found.invariant c.in-Reading.register k.turned (omega (arith, k.said))
