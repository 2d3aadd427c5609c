-- The voices, apart: the arrays of their small records stand for them. What is put at index j of an array is voice j's, and no other's.
use mathlib.Core.List.{List, ◌∷◌, [], ◌++◌}
use mathlib.Core.Logic.{◌≢◌}
use mathlib.Core.Path.{◌≡◌, refl, sym, ap, ◌∙◌}
use Prim.Native.Nat.{ℕ, zero, suc, ◌<◌}
use native.Mathlib.Omega.{arith}
use native.Mathlib.Decide.{ℕ_discrete, dec_lt}
use lib.IntN.{ℤ, pos}
use lib.ListN.{get_or, set, length, length-set, length-append, get_or-append}
use lib.Seq.{get_or-set_same, get_or-set_other, get_or_at, ext_get_or}
use Rattle.numbers.specs.Listed.{listed}
use Rattle.dsp.specs.Machine.{no_voice, Parts}
use Rattle.dsp.specs.Inside.{as_voice, as_globals, no_dial, no_envelope, no_play, no_feed, samples_at, voices_in}
use Rattle.dsp.specs.declared.adsr.Envelope.{Envelope}
use Rattle.dsp.specs.declared.lane.Dial.{Dial}
use Rattle.dsp.specs.declared.play.Feed.{Feed}
use Rattle.dsp.specs.declared.play.Play.{Play}
use Rattle.dsp.specs.declared.tick.Far.{Far}
use Rattle.dsp.specs.declared.voice.Voice.{Voice}

-- ---- a list by index

module _ {A : Type 0} (f : ℕ → A) where
  pub listed-count : (n : ℕ) → length (listed f n) ≡ n
  unfolding listed
  listed-count zero = refl
  listed-count (suc n) = rw (length-append (listed f n) (f n ∷ []), listed-count n) (omega arith)

  pub listed_at : (d : A) (n k : ℕ) → k < n → get_or (listed f n) k d ≡ f k
  unfolding listed
  listed_at d zero k l = absurd (omega arith)
  listed_at d (suc n) k l =
      elim (dec_lt k n) [
        | yes y ↦ let e = listed-count n in get_or-append (listed f n) (f n ∷ []) d k (omega arith) ∙ listed_at d n k y
        | no y ↦ let e : k ≡ n = omega arith in ap (λ (m : ℕ). get_or (listed f n ++ (f n ∷ [])) m d) e ∙ get_or_at (listed f n) (f n) [] d n (listed-count n) ∙ ap f (sym e)
      ]

-- ---- the arrays

pub record Arrays : Type 0 where
  pub envelopes : List Envelope
  pub plays : List Play
  pub feeds : List Feed
  pub currents : List ℤ
  pub store : List (List ℤ)

abbrev pub arrays : List Envelope → List Play → List Feed → List ℤ → List (List ℤ) → Arrays
arrays e p f x s = record { envelopes = e; plays = p; feeds = f; currents = x; store = s }

pub record Sized (a : Arrays) : Type 0 where
  pub envelopes : length a.envelopes ≡ 8
  pub plays : length a.plays ≡ 8
  pub feeds : length a.feeds ≡ 8
  pub currents : length a.currents ≡ 8
  pub store : length a.store ≡ 8

module _ (dials : List Dial) where
  abbrev pub voice_at : Arrays → ℕ → Voice
  voice_at a k =
      as_voice (get_or dials k no_dial) (get_or a.envelopes k no_envelope) (get_or a.plays k no_play) (get_or a.feeds k no_feed) (get_or a.currents k (pos 0)) (samples_at k a.store)

  abbrev pub voices_from : Arrays → List Voice
  voices_from a = voices_in dials a.envelopes a.plays a.feeds a.currents a.store

  pub voices-count : (a : Arrays) → length (voices_from a) ≡ 8
  unfolding voices_in
  voices-count a = listed-count (voice_at a) 8

  pub voice-at : (a : Arrays) (k : ℕ) → k < 8 → get_or (voices_from a) k no_voice ≡ voice_at a k
  unfolding voices_in
  voice-at a k l = listed_at (voice_at a) no_voice 8 k l

  -- a and b differ at voice j alone
  abbrev pub Beside : ℕ → Arrays → Arrays → Type 0
  Beside j a b = (k : ℕ) → k ≢ j → voice_at b k ≡ voice_at a k

  pub besides : (j : ℕ) (a b : Arrays)
      → ((k : ℕ) → k ≢ j → get_or b.envelopes k no_envelope ≡ get_or a.envelopes k no_envelope)
      → ((k : ℕ) → k ≢ j → get_or b.plays k no_play ≡ get_or a.plays k no_play)
      → ((k : ℕ) → k ≢ j → get_or b.feeds k no_feed ≡ get_or a.feeds k no_feed)
      → ((k : ℕ) → k ≢ j → get_or b.currents k (pos 0) ≡ get_or a.currents k (pos 0))
      → ((k : ℕ) → k ≢ j → samples_at k b.store ≡ samples_at k a.store)
      → Beside j a b
  besides j a b he hp hf hx hs = λ k n i. as_voice (get_or dials k no_dial) (he k n i) (hp k n i) (hf k n i) (hx k n i) (hs k n i)

  pub beside_voices : (j : ℕ) (a b : Arrays) (w : Voice) → j < 8 → Beside j a b → voice_at b j ≡ w → voices_from b ≡ set (voices_from a) j w
  beside_voices j a b w l h e =
      let n = voices-count b in
      let m = voices-count a in
      ext_get_or no_voice (voices_from b) (set (voices_from a) j w) (n ∙ sym (length-set (voices_from a) j w ∙ m))
      (λ (k : ℕ) (i : k < length (voices_from b)).
      voice-at b k (omega arith)
      ∙ elim (ℕ_discrete k j) [
        | yes q ↦ ap (voice_at b) q ∙ e ∙ sym (get_or-set_same (voices_from a) j w no_voice (omega arith)) ∙ ap (λ (z : ℕ). get_or (set (voices_from a) j w) z no_voice) (sym q)
        | no q ↦ h k q ∙ sym (get_or-set_other (voices_from a) j k w no_voice q ∙ voice-at a k (omega arith))
      ])

-- the parts that the arrays stand for
abbrev pub parts_from : List Dial → List ℤ → Arrays → List ℕ → List ℕ → Far → Parts
parts_from dials taps a delays bytes f =
    record { registers = bytes; voices = voices_from dials a; delays = delays; taps = taps; left = f.left; right = f.right; globals = as_globals f.glob }
