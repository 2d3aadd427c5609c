-- A voice's turn over the arrays, on plain values: behind its poll, behind its block change, behind its step, and where it lands, the arrays
-- stand for what the definition gives.
use Rattle.std.proofs.Common.{if◌then◌else◌}
use mathlib.Core.Bool.{Bool, true, false, ◌||◌}
use mathlib.Core.List.{[], List}
use mathlib.Core.Logic.{◌≢◌}
use mathlib.Core.Path.{◌≡◌, refl, sym, ap, subst, ◌∙◌}
use Prim.Native.Nat.{ℕ, ◌+◌, ◌-◌, ◌*◌, ◌/◌, ◌≤◌, ◌<◌}
use native.Mathlib.Omega.{arith}
use lib.IntN.{ℤ, pos}
use lib.ListN.{get_or, set, length, length-set}
use lib.Seq.{get_or-set_same, get_or-set_other, set-get_or, set-set, set_comm}
use borrow.Author.Tests.{eq-eqb, ne_eqb}
use borrow.Rule.Slice.PartMut.{put_mid, mid_of}
use Rattle.numbers.specs.Choice.{◌=?◌}
use Rattle.numbers.specs.Bits.{bit, with_bit}
use Rattle.numbers.specs.Signed.{high_z}
use Rattle.numbers.proofs.Choice.{chosen}
use Rattle.numbers.proofs.Bits.{with_own, with_twice, bit_here}
use Rattle.dsp.specs.With.{with_sample}
use Rattle.dsp.specs.Machine.{no_voice}
use Rattle.dsp.specs.Keys.{keyed_off, keyed_on, polled_endx, polled_delay}
use Rattle.dsp.specs.Interpolation.{interpolate_z}
use Rattle.dsp.specs.Voice.{Sounding, PitchSource, decoded_at, idle, interpolated, voice_step}
use Rattle.dsp.specs.Mix.{scaled_output, output_of}
use Rattle.dsp.specs.Sheet.{lane_bytes}
use Rattle.dsp.specs.Lane.{Shared, polled_of, Waiting, let_step, waited, source_of, waited_of, noised, cell_after, cell_of, own_cell, put_endx, put_bytes, Sums, added, Landed, turned}
use Rattle.dsp.specs.Tick.{Round}
use Rattle.dsp.specs.Inside.{history_of, as_brr, as_voice, as_sounding, begun_of, due_of, rest_left, block_address, gone_on, samples_at, no_dial, no_envelope, no_play, no_feed}
use Rattle.dsp.specs.declared.adsr.Envelope.{Envelope}
use Rattle.dsp.specs.declared.lane.Dial.{Dial}
use Rattle.dsp.specs.declared.play.Feed.{Feed}
use Rattle.dsp.specs.declared.play.Play.{Play}
use Rattle.dsp.specs.declared.voice.Voice.{Voice}
use Rattle.dsp.proofs.Apart.{Arrays, arrays, Sized, voice_at, voices_from, voice-at, Beside, besides, beside_voices}
use Rattle.dsp.proofs.Drives.{Lanes, lane_on}
use Rattle.dsp.proofs.Samples.{once_of}
use Rattle.dsp.proofs.Steps.{Ticks, idle-step, sounding-step, in_block, past_block}

-- ---- the ENDX bit

abbrev pub endx_of : ℕ → List ℕ → Bool
endx_of j bytes = bit (get_or bytes 0x7C 0) j

put-own : (j : ℕ) (bytes : List ℕ) → put_endx j (endx_of j bytes) bytes ≡ bytes
put-own j bytes = ap (set bytes 0x7C) (with_own (get_or bytes 0x7C 0) j) ∙ set-get_or bytes 0x7C 0

put_twice : (j : ℕ) (a b : Bool) (bytes : List ℕ) → length bytes ≡ 128 → put_endx j b (put_endx j a bytes) ≡ put_endx j b bytes
put_twice j a b bytes h =
    set-set bytes 0x7C _ _
    ∙ ap (λ (x : ℕ). set bytes 0x7C (with_bit x j b)) (get_or-set_same bytes 0x7C _ 0 (omega arith))
    ∙ ap (set bytes 0x7C) (with_twice (get_or bytes 0x7C 0) j a b)

-- what the poll and the block change write of it
polled_endx_lem : (j : ℕ) (on : Bool) (bytes : List ℕ) → (if on then put_endx j false bytes else bytes) ≡ put_endx j (polled_endx on (endx_of j bytes)) bytes
polled_endx_lem j true bytes = refl
polled_endx_lem j false bytes = sym (put-own j bytes)

ended_endx : (j : ℕ) (end endx : Bool) (bytes : List ℕ) → length bytes ≡ 128
    → (if end then put_endx j true (put_endx j endx bytes) else put_endx j endx bytes) ≡ put_endx j (endx || end) bytes
ended_endx j true true bytes h = put_twice j true true bytes h
ended_endx j true false bytes h = put_twice j false true bytes h
ended_endx j false true bytes h = refl
ended_endx j false false bytes h = refl

-- ---- in the turn of voice j: the arrays and the bytes stand for the voice u, and no other moved

pub record Stands (dials : List Dial) (j : ℕ) (a₀ : Arrays) (bytes₀ : List ℕ) (u : Sounding) (a : Arrays) (bytes : List ℕ) : Type 0 where
  pub sized : Sized a
  pub others : Beside dials j a₀ a
  pub voice : voice_at dials a j ≡ u.voice
  pub bytes_are : bytes ≡ put_endx j u.endx bytes₀

-- behind its step, or a skipped tick
pub record Waited (dials : List Dial) (j : ℕ) (a₀ : Arrays) (delays₀ bytes₀ : List ℕ) (w : Waiting) (a : Arrays) (delays bytes : List ℕ) : Type 0 where
  pub sized : Sized a
  pub others : Beside dials j a₀ a
  pub voice : voice_at dials a j ≡ w.sounding.voice
  pub waits : delays ≡ set delays₀ j w.delay
  pub bytes_are : bytes ≡ set (put_endx j w.sounding.endx bytes₀) (j * 16 + 8) w.envx

abbrev pub polled_at : List Dial → Shared → ℕ → Arrays → List ℕ → Sounding
polled_at dials c j a bytes = polled_of c j (voice_at dials a j) (endx_of j bytes)

abbrev pub wait_at : List Dial → Shared → List ℕ → ℕ → ℤ → Arrays → List ℕ → List ℕ → Waiting
wait_at dials c ram j prev a delays bytes =
    waited_of c ram j prev (voice_at dials a j) (get_or delays j 0) (get_or bytes (j * 16 + 4) 0) (get_or bytes (j * 16 + 8) 0) (endx_of j bytes)

abbrev delay_at : Shared → ℕ → List ℕ → ℕ
delay_at c j delays = polled_delay (bit c.kon j) (get_or delays j 0)

-- behind the poll
pub record Polled (dials : List Dial) (c : Shared) (j : ℕ) (a₀ : Arrays) (delays₀ bytes₀ : List ℕ) (a : Arrays) (delays bytes : List ℕ) : Type 0 where
  pub stands : Stands dials j a₀ bytes₀ (polled_at dials c j a₀ bytes₀) a bytes
  pub waits : delays ≡ set delays₀ j (delay_at c j delays₀)

module _ (dials : List Dial) (c : Shared) (j : ℕ) (a₀ : Arrays) (delays₀ bytes₀ : List ℕ) (lt : j < 8) (h₀ : Sized a₀) where
  pub not_polled : bit c.koff j ≡ false → bit c.kon j ≡ false → Polled dials c j a₀ delays₀ bytes₀ a₀ delays₀ bytes₀
  unfolding polled_of keyed_off keyed_on
  not_polled off on =
      record {
        stands = record { sized = h₀; others = λ k n. refl; voice = rw (on, off); bytes_are = rw on (sym (put-own j bytes₀)) };
        waits = rw on (sym (set-get_or delays₀ j 0));
      }

  -- as the code's poll leaves them
  pub is_polled : (e : Envelope) (p : Play) (f : Feed) (currents : List ℤ) (delays bytes : List ℕ)
      → ((v : Voice) (samples : List ℤ) (endx : Bool) → v.srcn ≡ (get_or dials j no_dial).srcn
      → as_sounding (with_sample v (get_or currents j (pos 0))) e p f samples (if bit c.kon j then false else endx)
      ≡ polled_of c j (as_sounding (with_sample v (get_or a₀.currents j (pos 0))) (get_or a₀.envelopes j no_envelope) (get_or a₀.plays j no_play) (get_or a₀.feeds j no_feed) samples endx).voice endx)
      → currents ≡ (if bit c.kon j then set a₀.currents j (pos 0) else a₀.currents)
      → delays ≡ set delays₀ j (delay_at c j delays₀)
      → bytes ≡ (if bit c.kon j then put_endx j false bytes₀ else bytes₀)
      → Polled dials c j a₀ delays₀ bytes₀ (arrays (set a₀.envelopes j e) (set a₀.plays j p) (set a₀.feeds j f) currents a₀.store) delays bytes
  unfolding polled_of
  is_polled e p f currents delays bytes ev ec ed eb =
      let on = bit c.kon j in
      let b = arrays (set a₀.envelopes j e) (set a₀.plays j p) (set a₀.feeds j f) currents a₀.store in
      record {
        stands =
            record {
              sized =
                  record {
                    envelopes = simp length-set h₀.envelopes;
                    plays = simp length-set h₀.plays;
                    feeds = simp length-set h₀.feeds;
                    currents = ap (λ (l : List ℤ). length l) ec ∙ chosen (λ (l : List ℤ). length l ≡ 8) on (simp length-set h₀.currents) h₀.currents;
                    store = h₀.store;
                  };
              others =
                  besides dials j a₀ b (λ k n. get_or-set_other a₀.envelopes j k e no_envelope n) (λ k n. get_or-set_other a₀.plays j k p no_play n) (λ k n. get_or-set_other a₀.feeds j k f no_feed n)
                  (λ k n. ap (λ (l : List ℤ). get_or l k (pos 0)) ec ∙ chosen (λ (l : List ℤ). get_or l k (pos 0) ≡ get_or a₀.currents k (pos 0)) on (get_or-set_other a₀.currents j k (pos 0) (pos 0) n) refl)
                  (λ k n. refl);
              voice =
                  (λ i. as_voice (get_or dials j no_dial) (get_or-set_same a₀.envelopes j e no_envelope (omega (arith, h₀.envelopes)) i) (get_or-set_same a₀.plays j p no_play (omega (arith, h₀.plays)) i) (get_or-set_same a₀.feeds j f no_feed (omega (arith, h₀.feeds)) i) (get_or currents j (pos 0)) (samples_at j a₀.store))
                  ∙ ap (λ (s : Sounding). s.voice) (ev (voice_at dials a₀ j) (samples_at j a₀.store) (endx_of j bytes₀) refl);
              bytes_are = eb ∙ polled_endx_lem j on bytes₀;
            };
        waits = ed;
      }

  module _ (ram : List ℕ) (prev : ℤ) (a : Arrays) (delays bytes : List ℕ) (ld : length delays₀ ≡ 8) (lb : length bytes₀ ≡ 128) (q : Polled dials c j a₀ delays₀ bytes₀ a delays bytes) where
    -- the delay that is tested, and the bytes that the poll leaves as they were
    delay_now : get_or delays j 0 ≡ delay_at c j delays₀
    delay_now = ap (λ (l : List ℕ). get_or l j 0) q.waits ∙ get_or-set_same delays₀ j (delay_at c j delays₀) 0 (omega arith)

    pub byte_there : (n : ℕ) → n ≢ 0x7C → get_or bytes n 0 ≡ get_or bytes₀ n 0
    byte_there n e = ap (λ (l : List ℕ). get_or l n 0) q.stands.bytes_are ∙ get_or-set_other bytes₀ 0x7C n _ 0 e

    abbrev pub waiting : Waiting
    waiting = wait_at dials c ram j prev a₀ delays₀ bytes₀

    pub skips : (get_or delays j 0 ≡ 0 → ⊥) → Waited dials j a₀ delays₀ bytes₀ waiting a (set delays j (get_or delays j 0 - 1)) (set bytes (j * 16 + 8) 0)
    unfolding waited_of waited
    skips n =
        let d = delay_at c j delays₀ in
        let z : (d =? 0) ≡ false = ne_eqb d 0 (λ (e : d ≡ 0). n (delay_now ∙ e)) in
        record {
          sized = q.stands.sized;
          others = q.stands.others;
          voice = rw z q.stands.voice;
          waits = rw z (ap (λ (l : List ℕ). set l j (get_or delays j 0 - 1)) q.waits ∙ set-set delays₀ j d (get_or delays j 0 - 1) ∙ ap (λ (k : ℕ). set delays₀ j (k - 1)) delay_now);
          bytes_are = rw z (ap (λ (l : List ℕ). set l (j * 16 + 8) 0) q.stands.bytes_are);
        }

    -- ---- the step

    abbrev pub source : PitchSource
    source = source_of c.pmon j prev

    abbrev pub endx : Bool
    endx = (polled_at dials c j a₀ bytes₀).endx

    -- the voice with its envelope ticked
    abbrev pub ticking : Envelope → Sounding
    ticking h = as_sounding (voice_at dials a j) h (get_or a.plays j no_play) (get_or a.feeds j no_feed) (samples_at j a.store) endx

    stepped : get_or delays j 0 ≡ 0
        → let_step (voice_step ram c.dir (get_or bytes₀ (j * 16 + 4) 0) source (get_or bytes₀ (j * 16 + 8) 0) (ticking (get_or a.envelopes j no_envelope))) ≡ waiting
    unfolding polled_of waited_of waited
    stepped e =
        let z : (delay_at c j delays₀ =? 0) ≡ true = eq-eqb (delay_at c j delays₀) 0 (sym delay_now ∙ e) in
        rw z (λ i. let_step (voice_step ram c.dir (get_or bytes₀ (j * 16 + 4) 0) source (get_or bytes₀ (j * 16 + 8) 0) (record { voice = q.stands.voice i; endx = endx })))

    none_left : get_or delays j 0 ≡ 0 → delays ≡ set delays₀ j 0
    none_left e = q.waits ∙ ap (set delays₀ j) (sym delay_now ∙ e)

    -- arrays b, in which a few records of voice j are put in the place of those of a
    stood : (b : Arrays) (bytes' : List ℕ) (k : Envelope) (r : Play) (f : Feed) (new : List ℤ) (endx' : Bool) (u : Sounding) → Sized b → Beside dials j a b
        → get_or b.envelopes j no_envelope ≡ k → get_or b.plays j no_play ≡ r → get_or b.feeds j no_feed ≡ f → b.currents ≡ a.currents → samples_at j b.store ≡ new
        → bytes' ≡ put_endx j endx' bytes₀ → as_sounding (voice_at dials a j) k r f new endx' ≡ u → Stands dials j a₀ bytes₀ u b bytes'
    stood b bytes' k r f new endx' u h o ek er ef ex es eb eu =
        record {
          sized = h;
          others = λ n ne. o n ne ∙ q.stands.others n ne;
          voice = (λ i. as_voice (get_or dials j no_dial) (ek i) (er i) (ef i) (get_or (ex i) j (pos 0)) (es i)) ∙ ap (λ (s : Sounding). s.voice) eu;
          bytes_are = eb ∙ ap (λ (s : Sounding). put_endx j s.endx bytes₀) eu;
        }

    module _ (h : Envelope) where
      abbrev rose : Arrays
      rose = arrays (set a.envelopes j h) a.plays a.feeds a.currents a.store

      rose_sized : Sized rose
      rose_sized = let z = q.stands.sized in record { envelopes = simp length-set z.envelopes; plays = z.plays; feeds = z.feeds; currents = z.currents; store = z.store }

      rose_at : get_or rose.envelopes j no_envelope ≡ h
      rose_at = get_or-set_same a.envelopes j h no_envelope (omega (arith, q.stands.sized.envelopes))

      rose_beside : (k : ℕ) → k ≢ j → get_or rose.envelopes k no_envelope ≡ get_or a.envelopes k no_envelope
      rose_beside k n = get_or-set_other a.envelopes j k h no_envelope n

      module _ (e : get_or delays j 0 ≡ 0) (t : Ticks (voice_at dials a j) (get_or a.envelopes j no_envelope) h) where
        -- an idle voice: its envelope alone moved
        pub idles : idle (ticking h).voice ≡ true → Waited dials j a₀ delays₀ bytes₀ waiting rose delays bytes
        idles i =
            let x = get_or bytes₀ (j * 16 + 8) 0 in
            let w = ap let_step (idle-step ram c.dir (get_or bytes₀ (j * 16 + 4) 0) x source (voice_at dials a j) (get_or a.envelopes j no_envelope) h (get_or a.plays j no_play) (get_or a.feeds j no_feed) (samples_at j a.store) endx t i) ∙ stepped e in
            let s = stood rose bytes h (get_or a.plays j no_play) (get_or a.feeds j no_feed) (samples_at j a.store) endx (ticking h) rose_sized (besides dials j a rose rose_beside (λ k n. refl) (λ k n. refl) (λ k n. refl) (λ k n. refl)) rose_at refl refl refl refl q.stands.bytes_are refl in
            subst (λ (y : Waiting). Waited dials j a₀ delays₀ bytes₀ y rose delays bytes) w
            (record {
              sized = s.sized;
              others = s.others;
              voice = s.voice;
              waits = none_left e;
              bytes_are =
                  s.bytes_are
                  ∙ sym (set-get_or (put_endx j endx bytes₀) (j * 16 + 8) 0)
                  ∙ ap (set (put_endx j endx bytes₀) (j * 16 + 8)) (get_or-set_other bytes₀ 0x7C (j * 16 + 8) _ 0 (λ (z : j * 16 + 8 ≡ 0x7C). omega arith));
            })

        -- a voice that sounds: its samples taken, its sample and its ENVX are written
        pub sounds : (b : Arrays) (bytes' : List ℕ) → idle (ticking h).voice ≡ false → (get_or a.plays j no_play).nibble_idx ≤ 15
            → Stands dials j a₀ bytes₀ (once_of ram c.dir (get_or bytes₀ (j * 16 + 4) 0) source (ticking h)) b bytes'
            → (let p = get_or b.plays j no_play in
            Waited dials j a₀ delays₀ bytes₀ waiting (arrays b.envelopes b.plays b.feeds (set b.currents j (interpolate_z p.pitch_counter (history_of p))) b.store) delays
            (set bytes' (j * 16 + 8) ((get_or b.envelopes j no_envelope).level / 16)))
        unfolding interpolated
        sounds b bytes' i l s =
            let u = once_of ram c.dir (get_or bytes₀ (j * 16 + 4) 0) source (ticking h) in
            let p = get_or b.plays j no_play in
            let y = interpolate_z p.pitch_counter (history_of p) in
            let d = arrays b.envelopes b.plays b.feeds (set b.currents j y) b.store in
            let w = ap let_step (sounding-step ram c.dir (get_or bytes₀ (j * 16 + 4) 0) (get_or bytes₀ (j * 16 + 8) 0) source (voice_at dials a j) (get_or a.envelopes j no_envelope) h (get_or a.plays j no_play) (get_or a.feeds j no_feed) (samples_at j a.store) endx t i l) ∙ stepped e in
            subst (λ (z : Waiting). Waited dials j a₀ delays₀ bytes₀ z d delays (set bytes' (j * 16 + 8) ((get_or b.envelopes j no_envelope).level / 16))) w
            (record {
              sized = let z = s.sized in record { envelopes = z.envelopes; plays = z.plays; feeds = z.feeds; currents = simp length-set z.currents; store = z.store };
              others = λ k n. besides dials j b d (λ k n. refl) (λ k n. refl) (λ k n. refl) (λ k n. get_or-set_other b.currents j k y (pos 0) n) (λ k n. refl) k n ∙ s.others k n;
              voice =
                  (λ k. as_voice (get_or dials j no_dial) (get_or b.envelopes j no_envelope) p (get_or b.feeds j no_feed) (get_or-set_same b.currents j y (pos 0) (omega (arith, s.sized.currents)) k) (samples_at j b.store))
                  ∙ ap interpolated s.voice;
              waits = none_left e;
              bytes_are = (λ k. set (s.bytes_are k) (j * 16 + 8) ((s.voice k).adsr.envelope_level / 16));
            })

      -- the samples that its block still has are taken: p
      module _ (p : Play) (begun : as_sounding (voice_at dials a j) h p (get_or a.feeds j no_feed) (samples_at j a.store) endx ≡ begun_of source (ticking h)) where
        abbrev took : Arrays
        took = arrays (set a.envelopes j h) (set a.plays j p) a.feeds a.currents a.store

        took_beside : (k : ℕ) → k ≢ j → get_or took.plays k no_play ≡ get_or a.plays k no_play
        took_beside k n = get_or-set_other a.plays j k p no_play n

        pub in_its_block : due_of source (ticking h) ≡ false → Stands dials j a₀ bytes₀ (once_of ram c.dir (get_or bytes₀ (j * 16 + 4) 0) source (ticking h)) took bytes
        in_its_block d =
            let z = q.stands.sized in
            stood took bytes h p (get_or a.feeds j no_feed) (samples_at j a.store) endx _
            (record { envelopes = rose_sized.envelopes; plays = simp length-set z.plays; feeds = z.feeds; currents = z.currents; store = z.store })
            (besides dials j a took rose_beside took_beside (λ k n. refl) (λ k n. refl) (λ k n. refl))
            rose_at (get_or-set_same a.plays j p no_play (omega (arith, z.plays))) refl refl refl q.stands.bytes_are
            (in_block ram c.dir (get_or bytes₀ (j * 16 + 4) 0) source (ticking h) _ begun d)

        -- z: the block that follows, new: its samples
        pub past_its_block : (k : Envelope) (r : Play) (z : Feed) (new : List ℤ) (bytes' : List ℕ) (rest : ℕ) → due_of source (ticking h) ≡ true → rest ≡ rest_left source (ticking h)
            → as_sounding (voice_at dials a j) k r z new (endx || z.block_end)
            ≡ gone_on ((get_or a.feeds j no_feed).buffer_fill =? 0) rest
            (decoded_at ram (block_address ram c.dir (get_or bytes (j * 16 + 4) 0) (as_brr p (get_or a.feeds j no_feed) (samples_at j a.store)))
            (as_sounding (voice_at dials a j) h p (get_or a.feeds j no_feed) (samples_at j a.store) endx))
            → bytes' ≡ (if z.block_end then put_endx j true bytes else bytes)
            → Stands dials j a₀ bytes₀ (once_of ram c.dir (get_or bytes₀ (j * 16 + 4) 0) source (ticking h))
            (arrays (set took.envelopes j k) (set took.plays j r) (set took.feeds j z) took.currents (set took.store j new)) bytes'
        past_its_block k r z new bytes' rest d er ec eb =
            let y = q.stands.sized in
            let b = arrays (set took.envelopes j k) (set took.plays j r) (set took.feeds j z) took.currents (set took.store j new) in
            let le : length took.envelopes ≡ 8 = simp length-set y.envelopes in
            let lp : length took.plays ≡ 8 = simp length-set y.plays in
            let n = byte_there (j * 16 + 4) (λ (w : j * 16 + 4 ≡ 0x7C). omega arith) in
            stood b bytes' k r z new (endx || z.block_end) _
            (record { envelopes = simp length-set y.envelopes; plays = simp length-set y.plays; feeds = simp length-set y.feeds; currents = y.currents; store = simp length-set y.store })
            (besides dials j a b (λ m ne. get_or-set_other took.envelopes j m k no_envelope ne ∙ rose_beside m ne) (λ m ne. get_or-set_other took.plays j m r no_play ne ∙ took_beside m ne) (λ m ne. get_or-set_other a.feeds j m z no_feed ne) (λ m ne. refl) (λ m ne. get_or-set_other a.store j m new [] ne))
            (get_or-set_same took.envelopes j k no_envelope (omega (arith, le))) (get_or-set_same took.plays j r no_play (omega (arith, lp))) (get_or-set_same a.feeds j z no_feed (omega (arith, y.feeds))) refl (get_or-set_same a.store j new [] (omega (arith, y.store)))
            (eb ∙ ap (λ (l : List ℕ). if z.block_end then put_endx j true l else l) q.stands.bytes_are ∙ ended_endx j z.block_end endx bytes₀ lb)
            (past_block ram c.dir (get_or bytes₀ (j * 16 + 4) 0) source (ticking h) _ begun rest _ d er
            (ec ∙ ap (λ (m : ℕ). gone_on ((get_or a.feeds j no_feed).buffer_fill =? 0) rest
            (decoded_at ram (block_address ram c.dir m (as_brr p (get_or a.feeds j no_feed) (samples_at j a.store))) (as_sounding (voice_at dials a j) h p (get_or a.feeds j no_feed) (samples_at j a.store) endx))) n))

-- ---- where it lands: NON, the output, the bytes, the sums and the lane of the sheet

-- its sample, NON heeded
abbrev pub sample_now : Shared → ℕ → Arrays → ℤ
sample_now c j a = if bit c.non j then c.noise else get_or a.currents j (pos 0)

abbrev pub settled_in : Shared → ℕ → Arrays → Arrays
settled_in c j a = arrays a.envelopes a.plays a.feeds (set a.currents j (sample_now c j a)) a.store

module _ (dials : List Dial) (c : Shared) (ram : List ℕ) (j : ℕ) (a₀ : Arrays) (delays₀ bytes₀ : List ℕ) (sums : Sums) (a : Arrays) (delays bytes : List ℕ) (lt : j < 8) (lb : length bytes₀ ≡ 128)
    (s : Waited dials j a₀ delays₀ bytes₀ (wait_at dials c ram j sums.prev a₀ delays₀ bytes₀) a delays bytes) where
  abbrev left : Waiting
  left = wait_at dials c ram j sums.prev a₀ delays₀ bytes₀

  abbrev bytes_now : List ℕ
  bytes_now = put_endx j left.sounding.endx bytes₀

  envx_there : get_or bytes (j * 16 + 8) 0 ≡ left.envx
  envx_there =
      ap (λ (l : List ℕ). get_or l (j * 16 + 8) 0) s.bytes_are
      ∙ get_or-set_same bytes_now (j * 16 + 8) left.envx 0 (let n : length bytes_now ≡ 128 = simp length-set lb in omega arith)

  endx_there : endx_of j bytes ≡ left.sounding.endx
  endx_there =
      ap (λ (l : List ℕ). bit (get_or l 0x7C 0) j) s.bytes_are
      ∙ ap (λ (n : ℕ). bit n j) (get_or-set_other bytes_now (j * 16 + 8) 0x7C left.envx 0 (λ (e : 0x7C ≡ j * 16 + 8). omega arith) ∙ get_or-set_same bytes₀ 0x7C _ 0 (omega arith))
      ∙ bit_here (get_or bytes₀ 0x7C 0) j left.sounding.endx

  -- the code writes the ENDX bit first, the definition last
  bytes_there : (n : ℕ) → set bytes (j * 16 + 9) n ≡ put_endx j left.sounding.endx (set (set bytes₀ (j * 16 + 8) left.envx) (j * 16 + 9) n)
  bytes_there n =
      let b = with_bit (get_or bytes₀ 0x7C 0) j left.sounding.endx in
      let p : j * 16 + 8 ≢ 0x7C = λ (e : j * 16 + 8 ≡ 0x7C). omega arith in
      let r : j * 16 + 9 ≢ 0x7C = λ (e : j * 16 + 9 ≡ 0x7C). omega arith in
      let p' : 0x7C ≢ j * 16 + 8 = λ (e : 0x7C ≡ j * 16 + 8). omega arith in
      let r' : 0x7C ≢ j * 16 + 9 = λ (e : 0x7C ≡ j * 16 + 9). omega arith in
      let l = set (set bytes₀ (j * 16 + 8) left.envx) (j * 16 + 9) n in
      let old : get_or l 0x7C 0 ≡ get_or bytes₀ 0x7C 0 = get_or-set_other (set bytes₀ (j * 16 + 8) left.envx) (j * 16 + 9) 0x7C n 0 r' ∙ get_or-set_other bytes₀ (j * 16 + 8) 0x7C left.envx 0 p' in
      ap (λ (m : List ℕ). set m (j * 16 + 9) n) (s.bytes_are ∙ sym (set_comm bytes₀ (j * 16 + 8) 0x7C left.envx b p))
      ∙ sym (set_comm (set bytes₀ (j * 16 + 8) left.envx) (j * 16 + 9) 0x7C n b r)
      ∙ ap (λ (m : ℕ). set l 0x7C (with_bit m j left.sounding.endx)) (sym old)

  pub settled_sized : Sized (settled_in c j a)
  settled_sized = let z = s.sized in record { envelopes = z.envelopes; plays = z.plays; feeds = z.feeds; currents = simp length-set z.currents; store = z.store }

  pub voices_now : voices_from dials (settled_in c j a) ≡ set (voices_from dials a₀) j (voice_at dials (settled_in c j a) j)
  voices_now =
      beside_voices dials j a₀ (settled_in c j a) (voice_at dials (settled_in c j a) j) lt
      (λ k n. besides dials j a (settled_in c j a) (λ k n. refl) (λ k n. refl) (λ k n. refl) (λ k n. get_or-set_other a.currents j k (sample_now c j a) (pos 0) n) (λ k n. refl) k n ∙ s.others k n)
      refl

  pub lands : (out : ℤ) (sums' : Sums) (bytes' slot slot' : List ℕ)
      → out ≡ scaled_output (get_or a.envelopes j no_envelope).phase (get_or a.envelopes j no_envelope).level (sample_now c j a)
      → bytes' ≡ set bytes (j * 16 + 9) (high_z out)
      → slot' ≡ lane_bytes out (get_or bytes (j * 16 + 8) 0) (endx_of j bytes)
      → sums' ≡ added (bit c.eon j) out (get_or dials j no_dial).left_vol (get_or dials j no_dial).right_vol sums
      → ◌≡◌ {A = Landed} (record { voice = voice_at dials (settled_in c j a) j; delay = left.delay; sums = sums'; bytes = bytes'; slot = slot' })
      (turned true c ram j (voice_at dials a₀ j) (get_or delays₀ j 0) sums bytes₀ slot)
  unfolding turned own_cell cell_of cell_after noised put_bytes
  lands out sums' bytes' slot slot' eo eb es em =
      let v : Voice = as_voice (get_or dials j no_dial) (get_or a.envelopes j no_envelope) (get_or a.plays j no_play) (get_or a.feeds j no_feed) (sample_now c j a) (samples_at j a.store) in
      let ev : voice_at dials (settled_in c j a) j ≡ v =
      (λ i. as_voice (get_or dials j no_dial) (get_or a.envelopes j no_envelope) (get_or a.plays j no_play) (get_or a.feeds j no_feed) (get_or-set_same a.currents j (sample_now c j a) (pos 0) (omega (arith, s.sized.currents)) i) (samples_at j a.store)) in
      let ew : v ≡ noised (bit c.non j) c.noise left.sounding.voice = ap (noised (bit c.non j) c.noise) s.voice in
      let f : Voice → ℤ → Landed =
      λ (w : Voice) (x : ℤ).
      record {
        voice = w;
        delay = left.delay;
        sums = added (bit c.eon j) x w.left_vol w.right_vol sums;
        bytes = put_bytes j left.envx x left.sounding.endx bytes₀;
        slot = lane_bytes x left.envx left.sounding.endx;
      } in
      let start : ◌≡◌ {A = Landed} (record { voice = voice_at dials (settled_in c j a) j; delay = left.delay; sums = sums'; bytes = bytes'; slot = slot' }) (f v out) =
      (λ i. record { voice = ev i; delay = left.delay; sums = em i; bytes = (eb ∙ bytes_there (high_z out)) i; slot = (es ∙ (λ k. lane_bytes out (envx_there k) (endx_there k))) i }) in
      start ∙ ap (f v) eo ∙ (λ i. f (ew i) (output_of (ew i)))

-- one lane more, of a voice that is worked
pub lane_worked : (dials : List Dial) (mask : ℕ) (c : Shared) (ram found : List ℕ) (at : ℕ) (start : Round) (v : ℕ) (sheet : List ℕ) (a₀ : Arrays) (delays₀ bytes₀ : List ℕ) (sums : Sums) (x y : ℕ)
    (a : Arrays) (delays bytes : List ℕ) (sample out : ℤ) (sums' : Sums) (bytes' slot' : List ℕ)
    → Lanes mask c ram found at start v sheet (voices_from dials a₀) delays₀ bytes₀ sums → v < 8 → x ≡ at + v * 4 → y ≡ x + 4 → length (mid_of x (y - x) sheet) ≡ 4 → bit mask v ≡ true → length bytes₀ ≡ 128
    → (s : Waited dials v a₀ delays₀ bytes₀ (wait_at dials c ram v sums.prev a₀ delays₀ bytes₀) a delays bytes)
    → sample ≡ sample_now c v a
    → out ≡ scaled_output (get_or a.envelopes v no_envelope).phase (get_or a.envelopes v no_envelope).level (sample_now c v a)
    → bytes' ≡ set bytes (v * 16 + 9) (high_z out)
    → slot' ≡ lane_bytes out (get_or bytes (v * 16 + 8) 0) (endx_of v bytes)
    → sums' ≡ added (bit c.eon v) out (get_or dials v no_dial).left_vol (get_or dials v no_dial).right_vol sums
    → (let b = arrays a.envelopes a.plays a.feeds (set a.currents v sample) a.store in
    Sized b × Lanes mask c ram found at start (v + 1) (put_mid x (y - x) sheet slot') (voices_from dials b) delays bytes' sums')
lane_worked dials mask c ram found at start v sheet a₀ delays₀ bytes₀ sums x y a delays bytes sample out sums' bytes' slot' l lt ea eb es on lb s ev eo ey ez em =
    let b = settled_in c v a in
    let slot = mid_of x (y - x) sheet in
    let w = wait_at dials c ram v sums.prev a₀ delays₀ bytes₀ in
    let z : Landed = record { voice = voice_at dials b v; delay = w.delay; sums = sums'; bytes = bytes'; slot = slot' } in
    let e : z ≡ turned (bit mask v) c ram v (get_or (voices_from dials a₀) v no_voice) (get_or delays₀ v 0) sums bytes₀ slot =
    lands dials c ram v a₀ delays₀ bytes₀ sums a delays bytes lt lb s out sums' bytes' slot slot' eo ey ez em
    ∙ (λ i. turned (sym on i) c ram v (sym (voice-at dials a₀ v lt) i) (get_or delays₀ v 0) sums bytes₀ slot) in
    let landed-on : Lanes mask c ram found at start (v + 1) (put_mid x (y - x) sheet slot') (voices_from dials b) delays bytes' sums' =
    subst (λ (k : List ℕ). Lanes mask c ram found at start (v + 1) (put_mid x (y - x) sheet slot') (voices_from dials b) k bytes' sums') (sym s.waits)
    (subst (λ (k : List Voice). Lanes mask c ram found at start (v + 1) (put_mid x (y - x) sheet slot') k (set delays₀ v w.delay) bytes' sums') (sym (voices_now dials c ram v a₀ delays₀ bytes₀ sums a delays bytes lt lb s))
    (lane_on mask c ram found at start v sheet (voices_from dials a₀) delays₀ bytes₀ sums x y z l lt ea eb es e)) in
    subst (λ (k : ℤ).
    (let d = arrays a.envelopes a.plays a.feeds (set a.currents v k) a.store in
    Sized d × Lanes mask c ram found at start (v + 1) (put_mid x (y - x) sheet slot') (voices_from dials d) delays bytes' sums')) (sym ev)
    (settled_sized dials c ram v a₀ delays₀ bytes₀ sums a delays bytes lt lb s, landed-on)
