-- A tick's samples at once: at most seven are taken, so that the block changes once at most; and what the samples of one block change of a voice.
use Rattle.std.proofs.Common.{if◌then◌else◌}
use mathlib.Core.Bool.{Bool, true, false, not, ◌&&◌}
use mathlib.Core.List.{List}
use mathlib.Core.Path.{◌≡◌, refl, sym, ap, ◌∙◌}
use Prim.Native.Nat.{ℕ, zero, suc, ◌+◌, ◌-◌, ◌≤◌, ◌<◌}
use native.Mathlib.Nat.{sub-zero}
use native.Mathlib.Omega.{arith}
use native.Mathlib.Decide.{ℕ_discrete, dec_lt}
use borrow.Author.Tests.{eq-eqb, ne_eqb, le-leb, lt-leb, lt-ltb, le-ltb}
use Rattle.numbers.specs.Choice.{◌<?◌, ◌=?◌}
use Rattle.numbers.proofs.Choice.{chosen, least_top}
use Rattle.dsp.specs.With.{with_position, with_brr, with_nibble}
use Rattle.dsp.specs.Ram.{word_at}
use Rattle.dsp.specs.Brr.{DecodedBlock, decode_block}
use Rattle.dsp.specs.Voice.{Sounding, PitchSource, position_of, samples_taken, placed, decoded_at, next_address, next_block, resolved, pushed, pushed_next, last_of, take_one, consume, advanced}
use Rattle.dsp.specs.Inside.{pushed_on, begun_of, due_of, rest_left, block_address, gone_on}
use Rattle.dsp.specs.declared.voice.Voice.{Voice}
use Rattle.dsp.proofs.Pitch.{seven}

abbrev pub index : Sounding → ℕ
index s = s.voice.brr.nibble_idx

-- the voice at another position
abbrev pub moved_to : ℕ → Sounding → Sounding
moved_to position s = record { voice = with_position s.voice position; endx = s.endx }

not_last : (s : Sounding) → index s < 15 → last_of s ≡ false
not_last s l = ne_eqb (index s) 15 (λ (e : index s ≡ 15). omega arith)

switched : {A B : Type 0} (f : A → B) (b : Bool) (x y : A) → f (if b then x else y) ≡ (if b then f x else f y)
switched f true x y = refl
switched f false x y = refl

placed-moved : (a : ℕ) (d : DecodedBlock) (v : Voice) (position : ℕ) → with_position (placed a d v) position ≡ placed a d (with_position v position)
unfolding placed
placed-moved a d v position = switched (λ (w : Voice). with_position w position) (d.end && not d.loops) _ _

-- ---- a block that is decoded: it begins at its first sample, keeps the position, and does not look at it

module _ (ram : List ℕ) (a : ℕ) (s : Sounding) where
  abbrev block : DecodedBlock
  block = decode_block ram a s.voice.brr.prev1 s.voice.brr.prev2

  abbrev mutes : Bool
  mutes = block.end && not block.loops

  pub decoded_first : index (decoded_at ram a s) ≡ 0
  unfolding decoded_at placed
  decoded_first = chosen (λ (v : Voice). v.brr.nibble_idx ≡ 0) mutes refl refl

  decoded_counter : (decoded_at ram a s).voice.pitch_counter ≡ s.voice.pitch_counter
  unfolding decoded_at placed
  decoded_counter = chosen (λ (v : Voice). v.pitch_counter ≡ s.voice.pitch_counter) mutes refl refl

  decoded_pitch : (decoded_at ram a s).voice.pitch ≡ s.voice.pitch
  unfolding decoded_at placed
  decoded_pitch = chosen (λ (v : Voice). v.pitch ≡ s.voice.pitch) mutes refl refl

  pub decoded_position : (x : PitchSource) → position_of x (decoded_at ram a s).voice ≡ position_of x s.voice
  unfolding position_of
  decoded_position x = rw (decoded_counter, decoded_pitch)

  pub decoded_taken : (x : PitchSource) → samples_taken x (decoded_at ram a s).voice ≡ samples_taken x s.voice
  unfolding samples_taken
  decoded_taken x = rw (decoded_position x, decoded_counter)

  pub decoded_moved : (position : ℕ) → moved_to position (decoded_at ram a s) ≡ decoded_at ram a (moved_to position s)
  unfolding decoded_at
  decoded_moved position = λ i. record { voice = placed-moved a block s.voice position i; endx = (decoded_at ram a s).endx }

-- ---- one by one is at once

module _ (ram : List ℕ) (dir srcn : ℕ) where
  within_block : (n : ℕ) (s : Sounding) → index s + n ≤ 15 → consume ram dir srcn n s ≡ pushed_on n s
  unfolding consume pushed_on take_one pushed
  within_block zero s h = refl
  within_block (suc n) s h = rw (not_last s (omega arith)) (within_block n (pushed_next s) (omega arith))

  -- what is taken behind a block change
  abbrev pub resumed : ℕ → Sounding → Sounding
  resumed n u = if u.voice.key_on then pushed_on n u else u

  rest_taken : (b : Bool) (n : ℕ) (u : Sounding) → index u ≡ 0 → n ≤ 15 → (if not b then u else consume ram dir srcn n u) ≡ (if b then pushed_on n u else u)
  rest_taken true n u z l = within_block n u (omega arith)
  rest_taken false n u z l = refl

  -- k samples and the block's last, the block change, and n more: m + 1 in all
  over_block : (k m n : ℕ) (s : Sounding) → m ≡ k + n → index s + k ≡ 15 → n ≤ 15
      → consume ram dir srcn (suc m) s ≡ resumed n (next_block ram dir srcn (pushed_on (suc k) s))
  unfolding consume pushed_on take_one pushed next_block
  over_block zero m n s q e l =
      let u = next_block ram dir srcn (pushed_next s) in
      let z : m ≡ n = omega arith in
      rw (eq-eqb (index s) 15 (omega arith), z) (rest_taken u.voice.key_on n u (decoded_first ram (next_address ram dir srcn (pushed_next s).voice.brr) (pushed_next s)) l)
  over_block (suc k) zero n s q e l = absurd (omega arith)
  over_block (suc k) (suc m) n s q e l = rw (not_last s (omega arith)) (over_block k m n (pushed_next s) (omega arith) (omega arith) l)

  -- what n samples leave, with one block change at most
  abbrev pub at_once : ℕ → Sounding → Sounding
  at_once n s =
      if n <? 16 - index s then pushed_on n s else
      resumed (n - (16 - index s)) (next_block ram dir srcn (pushed_on (16 - index s) s))

  pub at_once_lem : (n : ℕ) (s : Sounding) → index s ≤ 15 → n ≤ 15 → consume ram dir srcn n s ≡ at_once n s
  at_once_lem n s h l =
      elim (dec_lt n (16 - index s)) [
        | yes y ↦ rw (lt-ltb n (16 - index s) y) (within_block n s (omega arith))
        | no y ↦
            let m = n - (16 - index s) in
            let e : 16 - index s ≡ suc (15 - index s) = omega arith in
            let f : n ≡ suc (n - 1) = omega arith in
            rw (le-ltb n (16 - index s) (omega arith))
            (ap (λ (j : ℕ). consume ram dir srcn j s) f ∙ over_block (15 - index s) (n - 1) m s (omega arith) (omega arith) (omega arith)
            ∙ ap (λ (j : ℕ). resumed m (next_block ram dir srcn (pushed_on j s))) (sym e))
      ]

-- ---- what n samples of a block change: the index and the history, and nothing else

pub pushed-only : (n : ℕ) (s : Sounding)
    → pushed_on n s ≡ record { voice = with_brr s.voice (pushed_on n s).voice.history (with_nibble s.voice.brr (index s + n)); endx = s.endx }
unfolding pushed_on pushed
pushed-only zero s = let e : index s ≡ index s + 0 = omega arith in (λ i. record { voice = with_brr s.voice s.voice.history (with_nibble s.voice.brr (e i)); endx = s.endx })
pushed-only (suc n) s =
    let e : index s + 1 + n ≡ index s + suc n = omega arith in
    pushed-only n (pushed_next s) ∙ (λ i. record { voice = with_brr s.voice (pushed_on n (pushed_next s)).voice.history (with_nibble s.voice.brr (e i)); endx = s.endx })

pushed_fill : (n : ℕ) (s : Sounding) → (pushed_on n s).voice.brr.buffer_fill ≡ s.voice.brr.buffer_fill
pushed_fill n s = ap (λ (u : Sounding). u.voice.brr.buffer_fill) (pushed-only n s)

-- ---- a tick

module _ (ram : List ℕ) (dir srcn : ℕ) (x : PitchSource) (s : Sounding) where
  abbrev fill : ℕ
  fill = s.voice.brr.buffer_fill

  abbrev taken : ℕ
  taken = samples_taken x s.voice

  abbrev placed_on : Sounding
  placed_on = moved_to (position_of x s.voice) s

  -- its samples at once: those of the block, and where it runs out one block change and the others
  abbrev pub once_of : Sounding
  once_of = if due_of x s then gone_on (fill =? 0) (rest_left x s) (decoded_at ram (block_address ram dir srcn (begun_of x s).voice.brr) (begun_of x s)) else begun_of x s

  -- no block yet: the first is decoded, and all samples are taken from it, with key_on clear too
  first_once : fill ≡ 0 → advanced ram dir srcn x (resolved ram s) ≡ once_of
  unfolding resolved advanced pushed_on
  first_once e =
      let a = word_at ram s.voice.brr.addr in
      let t = decoded_at ram a s in
      let l = seven x t.voice in
      let z = decoded_first ram a s in
      rw (eq-eqb _ _ e, least_top taken 0 (omega arith))
      (within_block ram dir srcn (samples_taken x t.voice) (moved_to (position_of x t.voice) t) (omega arith)
      ∙ (λ i. pushed_on (decoded_taken ram a s x i) (moved_to (decoded_position ram a s x i) t))
      ∙ ap (pushed_on taken) (decoded_moved ram a s (position_of x s.voice)) ∙ rw (le-leb 0 taken (omega arith), sub-zero, eq-eqb _ _ e))

  next_once : (fill ≡ 0 → ⊥) → index s ≤ 15 → advanced ram dir srcn x (resolved ram s) ≡ once_of
  unfolding resolved advanced next_block
  next_once n h =
      let l = seven x s.voice in
      let room = 16 - index s in
      rw (ne_eqb _ _ n)
      (at_once_lem ram dir srcn taken placed_on h (omega arith)
      ∙ elim (dec_lt taken room) [
        | yes y ↦ let m : taken ≤ room = omega arith in rw (lt-ltb taken room y, lt-leb room taken y, le-leb taken room m)
        | no y ↦ let m : room ≤ taken = omega arith in rw (le-ltb taken room m, le-leb room taken m, least_top taken room m, pushed_fill room placed_on, ne_eqb _ _ n)
      ])

  pub tick_once : index s ≤ 15 → advanced ram dir srcn x (resolved ram s) ≡ once_of
  tick_once h = elim (ℕ_discrete fill 0) [ yes e ↦ first_once e | no n ↦ next_once n h ]
