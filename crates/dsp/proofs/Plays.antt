-- A play: the records that the code makes anew, a block change, samples of one block one after another; what samples one by one do to the
-- definition, and what they keep of a block and a level.
use Rattle.std.proofs.Common.{if◌then◌else◌}
use mathlib.Core.Path.{◌≡◌, ◌∙◌, refl}
use mathlib.Core.Bool.{Bool, true, false, not, ◌&&◌, ◌||◌, and-true, and-false}
use mathlib.Core.List.{List, [], ◌∷◌}
use mathlib.Core.Logic.{inr}
use Prim.Native.Nat.{ℕ, suc, ◌+◌, ◌-◌, ◌≤◌, ◌<◌}
use native.Mathlib.Omega.{arith}
use borrow.Author.Tests.{eqb-false, leb-true}
use lib.IntN.{ℤ, pos}
use lib.ListN.{get_or, length}
use lib.Signed.{mag}
use mir.Syntax.{w16}
use mir.Val.{to_z, of_z}
use Rattle.numbers.specs.Choice.{◌≤?◌, ◌=?◌}
use Rattle.numbers.specs.Listed.{listed}
use Rattle.numbers.specs.Unsigned.{least}
use Rattle.numbers.proofs.Choice.{tested}
use Rattle.numbers.proofs.Range.{landed}
use Rattle.dsp.specs.Machine.{no_voice}
use Rattle.dsp.specs.With.{with_state, moved, with_brr, with_nibble}
use Rattle.dsp.specs.Fit.{FitBrr}
use Rattle.dsp.specs.Keys.{silenced}
use Rattle.dsp.specs.Brr.{decode_block}
use Rattle.dsp.specs.Voice.{Sounding, PitchSource, block_of, filled, placed, decoded_at, resolved, pushed, idle, advanced, Stepped, shown, sounded}
use Rattle.dsp.specs.Inside.{as_envelope, history_of, as_brr, as_sounding, pushed_on, gone_on}
use Rattle.dsp.specs.declared.adsr.Adsr.{Adsr}
use Rattle.dsp.specs.declared.adsr.Envelope.{Envelope}
use Rattle.dsp.specs.declared.adsr.EnvelopePhase.TheVariants.{Off}
use Rattle.dsp.specs.declared.brr.Brr.{Brr}
use Rattle.dsp.specs.declared.play.Feed.{Feed}
use Rattle.dsp.specs.declared.play.Play.{Play}
use Rattle.dsp.specs.declared.voice.Voice.{Voice}
use Rattle.dsp.proofs.Moves.{KeptByPlay}
use Rattle.dsp.proofs.Samples.{moved_to}

-- ---- the block that is played: 16 samples, of which the next is below 16, and a fill of 0 or 16

pub next_fit : (b : Brr) → (b.nibble_idx =? 15) ≡ false → FitBrr b → FitBrr (with_nibble b (b.nibble_idx + 1))
next_fit b e h = let l : b.nibble_idx ≡ 15 → ⊥ = eqb-false _ _ e in (omega arith, h.1)

pub record Ready (b : Brr) : Type 0 where
  pub sized : length b.sample_buffer ≡ 16
  pub block : FitBrr b

pub ready : KeptByPlay (λ (v : Voice). Ready v.brr)
unfolding decode_block listed pushed
ready =
    record {
      fill = λ v y r a p q h. record { sized = refl; block = (omega arith, (inr refl, tt)) };
      mute = λ v h. h;
      push = λ v e h. record { sized = h.sized; block = next_fit v.brr e h.block };
      place = λ v p l h. h;
    }

-- ---- the level, whatever pitch and position are

abbrev pub Low : Voice → Type 0
Low v = v.adsr.envelope_level ≤ 0x800

pub low : KeptByPlay Low
unfolding pushed
low = record { fill = λ v y r a p q h. h; mute = λ v h. omega arith; push = λ v e h. h; place = λ v p l h. h }

-- a voice of pitch n, of which a contract about any voice of that pitch may speak
abbrev pub pitched : ℕ → Voice
pitched n =
    record {
      left_vol = no_voice.left_vol;
      right_vol = no_voice.right_vol;
      pitch = n;
      srcn = no_voice.srcn;
      key_on = no_voice.key_on;
      pitch_counter = no_voice.pitch_counter;
      current_sample = no_voice.current_sample;
      history = no_voice.history;
      adsr = no_voice.adsr;
      brr = no_voice.brr;
    }

-- ---- the step

module _ (ram : List ℕ) (dir srcn : ℕ) (x : PitchSource) (envx : ℕ) where
  pub rests : (s : Sounding) → idle s.voice ≡ true → ◌≡◌ {A = Stepped} (record { sounding = s; envx = envx }) (sounded ram dir srcn x envx s)
  unfolding sounded
  rests s h = rw h

  pub plays : (s : Sounding) → idle s.voice ≡ false → shown (advanced ram dir srcn x (resolved ram s)) ≡ sounded ram dir srcn x envx s
  unfolding sounded
  plays s h = rw h

-- ---- the records that the code makes anew

-- a history of 16 bits, which the code reads back as it was
pub record Sixteen (p : Play) : Type 0 where
  pub oldest : mag p.oldest < 0x8000
  pub older : mag p.older < 0x8000
  pub newer : mag p.newer < 0x8000
  pub newest : mag p.newest < 0x8000

pub history_read : (p : Play) → Sixteen p → (to_z w16 (of_z w16 p.oldest) ∷ to_z w16 (of_z w16 p.older) ∷ to_z w16 (of_z w16 p.newer) ∷ to_z w16 (of_z w16 p.newest) ∷ []) ≡ history_of p
history_read p h = λ i. landed w16 {z = p.oldest} h.oldest i ∷ landed w16 {z = p.older} h.older i ∷ landed w16 {z = p.newer} h.newer i ∷ landed w16 {z = p.newest} h.newest i ∷ []

-- what a voice in its tick sees of a play, at its own or another position
pub play-at : (v : Voice) (e : Envelope) (f : Feed) (samples : List ℤ) (endx : Bool) (p q : Play) (position : ℕ) → p.key_on ≡ q.key_on → p.nibble_idx ≡ q.nibble_idx
    → p.pitch_counter ≡ position → history_of p ≡ history_of q → as_sounding v e p f samples endx ≡ moved_to position (as_sounding v e q f samples endx)
play-at v e f samples endx p q position on k t h =
    λ i. record { voice = moved v (on i) (t i) v.current_sample (h i) (as_envelope v.adsr e) (with_nibble (as_brr p f samples) (k i)); endx = endx }

pub same-play : (v : Voice) (e : Envelope) (f : Feed) (samples : List ℤ) (endx : Bool) (p q : Play) → p.key_on ≡ q.key_on → p.nibble_idx ≡ q.nibble_idx
    → p.pitch_counter ≡ q.pitch_counter → history_of p ≡ history_of q → as_sounding v e p f samples endx ≡ as_sounding v e q f samples endx
same-play v e f samples endx p q on k t h = play-at v e f samples endx p q q.pitch_counter on k t h

-- ---- a block change

-- the play at the first sample of a block that mutes it or does not
abbrev pub anew : Bool → Play → Play
anew mutes p =
    record {
      key_on = p.key_on && not mutes;
      nibble_idx = 0;
      pitch_counter = p.pitch_counter;
      oldest = p.oldest;
      older = p.older;
      newer = p.newer;
      newest = p.newest;
    }

-- an envelope's state behind that block
abbrev pub cut_by : Bool → Envelope → Adsr → Adsr
cut_by mutes e a = if mutes then with_state a 0 Off e.counter else as_envelope a e

module _ (v : Voice) (e y : Envelope) (p : Play) (f g : Feed) (samples fresh : List ℤ) (endx : Bool) where
  abbrev before : Voice
  before = (as_sounding v e p f samples endx).voice

  anew_is : (mutes on : Bool) (a : Adsr) (b : Brr) → (p.key_on && not mutes) ≡ on → as_envelope v.adsr y ≡ a → as_brr (anew mutes p) g fresh ≡ b
      → as_sounding v y (anew mutes p) g fresh (endx || g.block_end)
      ≡ record { voice = moved v on p.pitch_counter v.current_sample (history_of p) a b; endx = endx || b.block_end }
  anew_is mutes on a b k c h = λ i. record { voice = moved v (k i) p.pitch_counter v.current_sample (history_of p) (c i) (h i); endx = endx || (h i).block_end }

  anew_filled : (mutes : Bool) (b : Brr) → as_envelope v.adsr y ≡ cut_by mutes e v.adsr → as_brr (anew mutes p) g fresh ≡ b
      → as_sounding v y (anew mutes p) g fresh (endx || g.block_end)
      ≡ record { voice = if mutes then silenced (with_brr before before.history b) else with_brr before before.history b; endx = endx || b.block_end }
  anew_filled true b c h = anew_is true false (cut_by true e v.adsr) b (and-false p.key_on) c h
  anew_filled false b c h = anew_is false p.key_on (cut_by false e v.adsr) b (and-true p.key_on) c h

  -- with the block's samples in the buffer, the play anew and the envelope cut or not, the block is decoded
  pub block_changed : (ram : List ℕ) (a : ℕ) (mutes : Bool) → let d = decode_block ram a f.prev1 f.prev2 in
      mutes ≡ (d.end && not d.loops) → as_envelope v.adsr y ≡ cut_by mutes e v.adsr → as_brr (anew mutes p) g fresh ≡ block_of a d
      → as_sounding v y (anew mutes p) g fresh (endx || g.block_end) ≡ decoded_at ram a (as_sounding v e p f samples endx)
  unfolding decoded_at placed
  block_changed ram a mutes m c h =
      let d = decode_block ram a f.prev1 f.prev2 in
      anew_filled mutes (block_of a d) c h ∙ (λ i. record { voice = if m i then silenced (filled a d before) else filled a d before; endx = endx || d.end })

-- the tick's further samples are taken, or dropped
pub goes_on_taking : (first : Bool) (n : ℕ) (s : Sounding) → (first || s.voice.key_on) ≡ true → pushed_on n s ≡ gone_on first n s
goes_on_taking first n s h = rw h

pub drops : (first : Bool) (n : ℕ) (s : Sounding) → (first || s.voice.key_on) ≡ false → s ≡ gone_on first n s
drops first n s h = rw h

-- n samples, of which the block has room for some
pub left_over : (n room : ℕ) → n - least n room ≡ n - room
left_over n room = tested (λ (m : ℕ). n - m ≡ n - room) (n ≤? room) (λ e. omega (arith, leb-true n room e)) (λ e. refl)

-- ---- samples of one block, one after another

-- the play at the sample k, with another history
abbrev pub heard_to : Play → ℕ → ℤ → ℤ → ℤ → ℤ → Play
heard_to p k a b c d = record { key_on = p.key_on; nibble_idx = k; pitch_counter = p.pitch_counter; oldest = a; older = b; newer = c; newest = d }

-- `left` samples on from q make what n make on from p
abbrev pub Hearing : List ℤ → ℕ → Play → ℕ → Play → Type 0
Hearing samples n p left q = (v : Voice) (e : Envelope) (f : Feed) (endx : Bool) → pushed_on left (as_sounding v e q f samples endx) ≡ pushed_on n (as_sounding v e p f samples endx)

-- nothing is taken yet
pub none_heard : (samples : List ℤ) (n : ℕ) (p : Play) (left : ℕ) (a b c d : ℤ) → left ≡ n → (a ∷ b ∷ c ∷ d ∷ []) ≡ history_of p
    → Hearing samples n p left (heard_to p p.nibble_idx a b c d)
none_heard samples n p left a b c d l h = λ v y f endx i. pushed_on (l i) (same-play v y f samples endx (heard_to p p.nibble_idx a b c d) p refl refl refl h i)

pub one_heard : (samples : List ℤ) (n : ℕ) (p : Play) (left m k : ℕ) (a b c d x : ℤ) → left ≡ suc m → x ≡ get_or samples k (pos 0) → Hearing samples n p left (heard_to p k a b c d)
    → Hearing samples n p m (heard_to p (k + 1) b c d x)
unfolding pushed_on pushed
one_heard samples n p left m k a b c d x l e h = λ v y f endx. rw e (rw l at (h v y f endx))

pub all-heard : (samples : List ℤ) (n : ℕ) (p : Play) (left : ℕ) (q : Play) → left ≡ 0 → Hearing samples n p left q
    → (v : Voice) (e : Envelope) (f : Feed) (endx : Bool) → as_sounding v e q f samples endx ≡ pushed_on n (as_sounding v e p f samples endx)
unfolding pushed_on
all-heard samples n p left q l h v y f endx = rw l at (h v y f endx)
