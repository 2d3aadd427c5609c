-- What a voice was taken apart into makes it again, and so for all voices in their arrays.
use borrow.Author.Rules.{rules}
use mathlib.Core.List.{List, [], ◌∷◌, map}
use mathlib.Core.Path.{◌≡◌, refl, sym, ◌∙◌}
use Prim.Native.Nat.{ℕ, zero, suc, ◌<◌}
use native.Mathlib.Omega.{arith}
use lib.IntN.{ℤ, pos}
use lib.ListN.{get_or, length}
use lib.Seq.{ext_get_or}
use mir.Val.{Val}
use denote.Shadow.{shadow}
use denote.Array.{each}
use denote.Struct.Declared.{row}
use Rattle.dsp.specs.Machine.{no_voice}
use Rattle.dsp.specs.Inside.{Wound, as_voice, envelope_of, dial_of, play_of, feed_of, no_dial, no_envelope, no_play, no_feed, voices_in, samples_at}
use Rattle.dsp.specs.declared.voice.Voice.{Voice}
use Rattle.dsp.proofs.Apart.{arrays, voices_from, voice-at, voices-count}
use Rattle.dsp.specs.contracts.voice.Voice.{the_type}

-- ---- a voice

four : (h : List ℤ) → length h ≡ 4 → (get_or h 0 (pos 0) ∷ get_or h 1 (pos 0) ∷ get_or h 2 (pos 0) ∷ get_or h 3 (pos 0) ∷ []) ≡ h
four [] e = absurd (omega arith)
four (a ∷ []) e = absurd (omega arith)
four (a ∷ b ∷ []) e = absurd (omega arith)
four (a ∷ b ∷ c ∷ []) e = absurd (omega arith)
four (a ∷ b ∷ c ∷ d ∷ []) e = refl
four (a ∷ b ∷ c ∷ d ∷ x ∷ xs) e = absurd (omega arith)

-- the parts of a voice make it again
pub voice-again : (v : Voice) → length v.history ≡ 4 → as_voice (dial_of v) (envelope_of v.adsr) (play_of v) (feed_of v.brr) v.current_sample v.brr.sample_buffer ≡ v
voice-again v e = rw (four v.history e)

-- ---- all voices

-- inside an array it does not matter what stands past its end
pub mapped_at : {A B : Type 0} (f : A → B) (l : List A) (d : A) (e : B) (k : ℕ) → k < length l → get_or (map f l) k e ≡ f (get_or l k d)
mapped_at f [] d e k h = absurd (omega arith)
mapped_at f (x ∷ xs) d e zero h = refl
mapped_at f (x ∷ xs) d e (suc k) h = mapped_at f xs d e k (omega arith)

-- a voice of the language has a history of four samples; so has each of an array, as owning it says
pub histories : (vs : List Voice) (us : List Val) → shadow (each Voice (row the_type).own_val vs us) → (k : ℕ) → k < length vs → length (get_or vs k no_voice).history ≡ 4
histories [] us p k l = absurd (omega arith)
histories (v ∷ vs) [] p k l = absurd p
histories (v ∷ vs) (u ∷ us) p zero l = let q = p.0 in search rules
histories (v ∷ vs) (u ∷ us) p (suc k) l = histories vs us p.1 k (omega arith)

module _ (vs : List Voice) (count : length vs ≡ 8) where
  -- the periods of a dial that was just made are those of its entries
  pub dials_wound : (k : ℕ) → k < 8 → Wound (get_or (map dial_of vs) k no_dial).settings
  dials_wound k l = rw (mapped_at dial_of vs no_voice no_dial k (omega arith)) (record { attack = refl; decay = refl; sustain = refl; gain = refl })

  -- where each voice's samples are stored at its place
  pub stored-samples : (k : ℕ) → k < 8 → samples_at k (map (λ v. v.brr.sample_buffer) vs) ≡ (get_or vs k no_voice).brr.sample_buffer
  stored-samples k l = mapped_at (λ w. w.brr.sample_buffer) vs no_voice [] k (omega arith)

  -- the parts of the voices make them again
  pub voices-again : (store : List (List ℤ)) → ((k : ℕ) → k < length vs → length (get_or vs k no_voice).history ≡ 4)
      → ((k : ℕ) → k < 8 → samples_at k store ≡ (get_or vs k no_voice).brr.sample_buffer)
      → voices_in (map dial_of vs) (map (λ v. envelope_of v.adsr) vs) (map play_of vs) (map (λ v. feed_of v.brr) vs) (map (λ v. v.current_sample) vs) store ≡ vs
  voices-again store four-each samples =
      let dials = map dial_of vs in
      let a = arrays (map (λ v. envelope_of v.adsr) vs) (map play_of vs) (map (λ v. feed_of v.brr) vs) (map (λ v. v.current_sample) vs) store in
      let n = voices-count dials a in
      ext_get_or no_voice (voices_from dials a) vs (n ∙ sym count)
      (λ (k : ℕ) (l : k < length (voices_from dials a)).
      let h : k < length vs = omega arith in
      voice-at dials a k (omega arith)
      ∙ (λ i.
      as_voice (mapped_at dial_of vs no_voice no_dial k h i) (mapped_at (λ w. envelope_of w.adsr) vs no_voice no_envelope k h i) (mapped_at play_of vs no_voice no_play k h i) (mapped_at (λ w. feed_of w.brr) vs no_voice no_feed k h i)
      (mapped_at (λ w. w.current_sample) vs no_voice (pos 0) k h i) (samples k (omega arith) i))
      ∙ voice-again (get_or vs k no_voice) (four-each k h))
