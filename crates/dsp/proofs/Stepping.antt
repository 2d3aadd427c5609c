-- A voice's turn by what the calls of the code ensure, on plain values: its poll, its advance, a block change or none, its step. What stands
-- behind each is fit.
use Rattle.std.proofs.Common.{if◌then◌else◌}
use mathlib.Core.Bool.{Bool, true, false, not, ◌&&◌, ◌||◌}
use mathlib.Core.List.{List}
use mathlib.Core.Path.{◌≡◌, refl, sym, ap, subst, ◌∙◌}
use Prim.Native.Nat.{ℕ, ◌+◌, ◌-◌, ◌*◌, ◌/◌, ◌%◌, ◌≤◌, ◌<◌}
use native.Mathlib.Nat.{mod-eq_of_lt}
use native.Mathlib.Omega.{arith}
use lib.IntN.{ℤ}
use lib.ListN.{get_or, set, length}
use Rattle.numbers.specs.Bits.{bit}
use Rattle.numbers.specs.Choice.{◌=?◌}
use Rattle.dsp.specs.Fit.{FitAdsr, FitVoice}
use Rattle.dsp.specs.Envelope.{is_off}
use Rattle.dsp.specs.Interpolation.{interpolate_z}
use Rattle.dsp.specs.Voice.{Sounding, PitchSource, decoded_at}
use Rattle.dsp.specs.Lane.{Shared, source_of, put_endx}
use Rattle.dsp.specs.Inside.{history_of, as_brr, as_sounding, begun_of, due_of, rest_left, block_address, gone_on, no_dial, no_envelope, no_play, no_feed, samples_at}
use Rattle.dsp.specs.declared.adsr.Envelope.{Envelope}
use Rattle.dsp.specs.declared.lane.Dial.{Dial}
use Rattle.dsp.specs.declared.play.Feed.{Feed}
use Rattle.dsp.specs.declared.play.Play.{Play}
use Rattle.dsp.specs.declared.voice.Voice.{Voice}
use Rattle.dsp.proofs.Apart.{Arrays, arrays, Sized, voice_at}
use Rattle.dsp.proofs.Envelopes.{fit-kept_envelope}
use Rattle.dsp.proofs.Fits.{adsr_fit, brr_fit, level_fit}
use Rattle.dsp.proofs.Lanes.{fits}
use Rattle.dsp.proofs.Moves.{polled_keeps, played_keeps, waited_keeps}
use Rattle.dsp.proofs.Pitch.{seven}
use Rattle.dsp.proofs.Plays.{Low, low}
use Rattle.dsp.proofs.Samples.{once_of, tick_once}
use Rattle.dsp.proofs.Steps.{Ticks}
use Rattle.dsp.proofs.Turning.{polled_at, wait_at, Stands, Waited, Polled, in_its_block, past_its_block, skips, idles, sounds}

-- a bit that was asked of voice v
pub asked : (m v : ℕ) {r : Bool} → v < 8 → r ≡ bit m (v % 8) → bit m v ≡ r
asked m v l e = sym (e ∙ ap (bit m) (mod-eq_of_lt l))

-- neither bit is set
pub either_off : (a b : Bool) → (a || b) ≡ false → (a ≡ false) × (b ≡ false)
either_off true b e = (e, cc)
either_off false b e = (refl, e)

-- the code tests that a voice sounds, the definition that it is idle
sounding-test : (k o : Bool) → (k || not o) ≡ true → (not k && o) ≡ false
sounding-test true o e = refl
sounding-test false true e = sym e
sounding-test false false e = refl

idle-test : (k o : Bool) → (k || not o) ≡ false → (not k && o) ≡ true
idle-test true o e = sym e
idle-test false true e = refl
idle-test false false e = sym e

-- in the turn of voice j, behind its poll
pub record Turn (dials : List Dial) (c : Shared) (j : ℕ) (a₀ : Arrays) (delays₀ bytes₀ : List ℕ) (a : Arrays) (delays bytes : List ℕ) : Type 0 where
  pub within : j < 8
  pub sized : Sized a₀
  pub waits : length delays₀ ≡ 8
  pub bytes_sized : length bytes₀ ≡ 128
  pub fit : FitVoice (voice_at dials a₀ j)
  pub polled : Polled dials c j a₀ delays₀ bytes₀ a delays bytes

-- what the advance of a voice s gives: its play p, whether a block change is due, and how many samples are left behind it
pub record Advanced (w : Voice) (h : Envelope) (f : Feed) (samples : List ℤ) (x : PitchSource) (s : Sounding) (p : Play) (due : Bool) (rest : ℕ) : Type 0 where
  pub begun : as_sounding w h p f samples s.endx ≡ begun_of x s
  pub is_due : due ≡ due_of x s
  pub rest_is : rest ≡ rest_left x s

module _ {dials : List Dial} {c : Shared} {j : ℕ} {a₀ : Arrays} {delays₀ bytes₀ : List ℕ} {a : Arrays} {delays bytes : List ℕ} (q : Turn dials c j a₀ delays₀ bytes₀ a delays bytes) where
  -- the samples of voice j
  abbrev part : List ℤ
  part = samples_at j a.store

  pub behind_fit : FitVoice (voice_at dials a j)
  behind_fit = subst FitVoice (sym q.polled.stands.voice) (polled_keeps fits c j _ _ q.fit)

  pub index_fit : (get_or a.plays j no_play).nibble_idx ≤ 15
  index_fit = (brr_fit (voice_at dials a j) behind_fit).0

  module _ (ram : List ℕ) (prev : ℤ) where
    abbrev pub Waits : Arrays → List ℕ → List ℕ → Type 0
    Waits = Waited dials j a₀ delays₀ bytes₀ (wait_at dials c ram j prev a₀ delays₀ bytes₀)

    pub waited_low : (b : Arrays) (ds bs : List ℕ) → Waits b ds bs → (get_or b.envelopes j no_envelope).level ≤ 0x800
    waited_low b ds bs w =
        subst Low (sym w.voice)
        (level_fit (wait_at dials c ram j prev a₀ delays₀ bytes₀).sounding.voice (waited_keeps fits c j ram prev (voice_at dials a₀ j) (get_or delays₀ j 0) (get_or bytes₀ (j * 16 + 4) 0) (get_or bytes₀ (j * 16 + 8) 0) (bit (get_or bytes₀ 0x7C 0) j) q.fit))

    pub skipped : (get_or delays j 0 ≡ 0 → ⊥) → Waits a (set delays j (get_or delays j 0 - 1)) (set bytes (j * 16 + 8) 0)
    skipped = skips dials c j a₀ delays₀ bytes₀ q.within q.sized ram prev a delays bytes q.waits q.bytes_sized q.polled

    -- with its envelope ticked
    module _ (h : Envelope) where
      abbrev rising : Sounding
      rising = as_sounding (voice_at dials a j) h (get_or a.plays j no_play) (get_or a.feeds j no_feed) (samples_at j a.store) (polled_at dials c j a₀ bytes₀).endx

      pub idled : (off : Bool) → get_or delays j 0 ≡ 0 → Ticks (voice_at dials a j) (get_or a.envelopes j no_envelope) h → off ≡ is_off h.phase → ((get_or a.plays j no_play).key_on || not off) ≡ false
          → Waits (arrays (set a.envelopes j h) a.plays a.feeds a.currents a.store) delays bytes
      idled off z t o e =
          let k = (get_or a.plays j no_play).key_on in
          idles dials c j a₀ delays₀ bytes₀ q.within q.sized ram prev a delays bytes q.waits q.bytes_sized q.polled h z t (idle-test k (is_off h.phase) ((λ i. k || not (sym o i)) ∙ e))

      abbrev pub Advance : Play → Bool → ℕ → Type 0
      Advance = Advanced (voice_at dials a j) h (get_or a.feeds j no_feed) (samples_at j a.store) (source_of c.pmon j prev) rising

      pub advance : (p : Play) (due : Bool) (rest : ℕ) {from : ℤ} {x : PitchSource} → from ≡ prev → x ≡ source_of c.pmon j from
          → ((v : Voice) (e : Envelope) (f : Feed) (endx : Bool) → v.pitch ≡ (get_or dials j no_dial).pitch → f.buffer_fill ≡ (get_or a.feeds j no_feed).buffer_fill
          → (let s = as_sounding v e (get_or a.plays j no_play) f part endx in
          (as_sounding v e p f part endx ≡ begun_of x s) × (due ≡ due_of x s) × (rest ≡ rest_left x s)))
          → Advance p due rest
      advance p due rest {x} ef ex g =
          let w = voice_at dials a j in
          let f = get_or a.feeds j no_feed in
          let B : PitchSource → Type 0 = λ (y : PitchSource).
          (let s = as_sounding w h (get_or a.plays j no_play) f part rising.endx in (as_sounding w h p f part rising.endx ≡ begun_of y s) × (due ≡ due_of y s) × (rest ≡ rest_left y s)) in
          let r = subst B (ex ∙ ap (source_of c.pmon j) ef) (g w h f rising.endx refl refl) in
          record { begun = r.0; is_due = r.1; rest_is = r.2 }

      pub rest_low : {p : Play} {due : Bool} {rest : ℕ} → Advance p due rest → rest ≤ 7
      rest_low g = let l = seven (source_of c.pmon j prev) rising.voice in omega (arith, g.rest_is, l)

      -- its samples taken
      abbrev pub Taken : Arrays → List ℕ → Type 0
      Taken = Stands dials j a₀ bytes₀ (once_of ram c.dir (get_or bytes₀ (j * 16 + 4) 0) (source_of c.pmon j prev) rising)

      module _ {p : Play} {due : Bool} {rest : ℕ} (g : Advance p due rest) where
        pub taken : due ≡ false → Taken (arrays (set a.envelopes j h) (set a.plays j p) a.feeds a.currents a.store) bytes
        taken d = in_its_block dials c j a₀ delays₀ bytes₀ q.within q.sized ram prev a delays bytes q.waits q.bytes_sized q.polled h p g.begun (sym g.is_due ∙ d)

        -- behind a block change
        pub taken_past : (k : Envelope) (r : Play) (z : Feed) (new : List ℤ) (end : List ℕ) → due ≡ true
            → (let f = get_or a.feeds j no_feed in
            ((v : Voice) (endx : Bool) → as_sounding v k r z new (endx || z.block_end)
            ≡ gone_on (f.buffer_fill =? 0) rest (decoded_at ram (block_address ram c.dir (get_or bytes (j * 16 + 4) 0) (as_brr p f part)) (as_sounding v h p f part endx)))
            × (end ≡ (if z.block_end then put_endx j true bytes else bytes)))
            → Taken (arrays (set (set a.envelopes j h) j k) (set (set a.plays j p) j r) (set a.feeds j z) a.currents (set a.store j new)) end
        taken_past k r z new end d y =
            past_its_block dials c j a₀ delays₀ bytes₀ q.within q.sized ram prev a delays bytes q.waits q.bytes_sized q.polled h p g.begun k r z new end rest (sym g.is_due ∙ d) g.rest_is (y.0 (voice_at dials a j) rising.endx) y.1

      module _ (t : Ticks (voice_at dials a j) (get_or a.envelopes j no_envelope) h) (b : Arrays) (bs : List ℕ) (s : Taken b bs) where
        pub taken_low : (get_or b.envelopes j no_envelope).level ≤ 0x800
        taken_low =
            let w = voice_at dials a j in
            let x = source_of c.pmon j prev in
            let n = get_or bytes₀ (j * 16 + 4) 0 in
            let l : Low rising.voice = (subst FitAdsr (sym t) (fit-kept_envelope w.adsr (adsr_fit w behind_fit))).0 in
            subst Low (sym s.voice) (subst (λ (u : Sounding). Low u.voice) (tick_once ram c.dir n x rising index_fit) (played_keeps low ram c.dir n x rising l))

        pub sounded : (off : Bool) (y : ℤ) → get_or delays j 0 ≡ 0 → off ≡ is_off h.phase → ((get_or a.plays j no_play).key_on || not off) ≡ true
            → (let p = get_or b.plays j no_play in y ≡ interpolate_z p.pitch_counter (history_of p))
            → Waits (arrays b.envelopes b.plays b.feeds (set b.currents j y) b.store) delays (set bs (j * 16 + 8) ((get_or b.envelopes j no_envelope).level / 16))
        sounded off y z o e ey =
            let k = (get_or a.plays j no_play).key_on in
            rw ey
            (sounds dials c j a₀ delays₀ bytes₀ q.within q.sized ram prev a delays bytes q.waits q.bytes_sized q.polled h z t b bs (sounding-test k (is_off h.phase) ((λ i. k || not (sym o i)) ∙ e)) index_fit s)
