-- A voice's step with its samples taken at once, on plain values: what the parts of the code leave is what the definition gives.
use mathlib.Core.Bool.{Bool, true, false}
use mathlib.Core.List.{List}
use mathlib.Core.Path.{◌≡◌, sym, ap, ◌∙◌}
use Prim.Native.Nat.{ℕ, ◌≤◌}
use lib.IntN.{ℤ}
use Rattle.numbers.specs.Choice.{◌=?◌}
use Rattle.dsp.specs.With.{with_envelope}
use Rattle.dsp.specs.Envelope.{envelope_tick}
use Rattle.dsp.specs.Voice.{Sounding, PitchSource, decoded_at, idle, Stepped, shown, sounded, voice_step}
use Rattle.dsp.specs.Inside.{as_envelope, as_sounding, begun_of, due_of, rest_left, block_address, gone_on}
use Rattle.dsp.specs.declared.adsr.Adsr.{Adsr}
use Rattle.dsp.specs.declared.adsr.Envelope.{Envelope}
use Rattle.dsp.specs.declared.play.Feed.{Feed}
use Rattle.dsp.specs.declared.play.Play.{Play}
use Rattle.dsp.specs.declared.voice.Voice.{Voice}
use Rattle.dsp.proofs.Plays.{rests, plays}
use Rattle.dsp.proofs.Samples.{once_of, tick_once}

-- the envelope's tick
abbrev pub Ticks : Voice → Envelope → Envelope → Type 0
Ticks v e h = as_envelope v.adsr h ≡ envelope_tick (as_envelope v.adsr e)

module _ (ram : List ℕ) (dir srcn envx : ℕ) (x : PitchSource) (v : Voice) (e h : Envelope) (p : Play) (f : Feed) (samples : List ℤ) (endx : Bool) (t : Ticks v e h) where
  -- before the step, and with the envelope ticked
  abbrev before : Sounding
  before = as_sounding v e p f samples endx

  abbrev risen : Sounding
  risen = as_sounding v h p f samples endx

  ticked : sounded ram dir srcn x envx risen ≡ voice_step ram dir srcn x envx before
  unfolding voice_step
  ticked = ap (λ (a : Adsr). sounded ram dir srcn x envx (record { voice = with_envelope before.voice a; endx = endx })) t

  pub idle-step : idle risen.voice ≡ true → ◌≡◌ {A = Stepped} (record { sounding = risen; envx = envx }) (voice_step ram dir srcn x envx before)
  idle-step i = rests ram dir srcn x envx risen i ∙ ticked

  pub sounding-step : idle risen.voice ≡ false → p.nibble_idx ≤ 15 → shown (once_of ram dir srcn x risen) ≡ voice_step ram dir srcn x envx before
  sounding-step i l = ap shown (sym (tick_once ram dir srcn x risen l)) ∙ plays ram dir srcn x envx risen i ∙ ticked

-- s: the voice with its envelope ticked, q: its play behind the samples that its block still had
module _ (ram : List ℕ) (dir srcn : ℕ) (x : PitchSource) (s q : Sounding) (b : q ≡ begun_of x s) where
  -- no block change is due
  pub in_block : due_of x s ≡ false → q ≡ once_of ram dir srcn x s
  in_block d = rw d b

  -- one is
  pub past_block : (rest : ℕ) (u : Sounding) → due_of x s ≡ true → rest ≡ rest_left x s
      → u ≡ gone_on (s.voice.brr.buffer_fill =? 0) rest (decoded_at ram (block_address ram dir srcn q.voice.brr) q)
      → u ≡ once_of ram dir srcn x s
  past_block rest u d r g = rw d (g ∙ (λ i. gone_on (s.voice.brr.buffer_fill =? 0) (r i) (decoded_at ram (block_address ram dir srcn (b i).voice.brr) (b i))))
