-- A run, and the run of its log without the named voices' own writes, agree outside the set as it runs.
use Rattle.std.proofs.Common.{if◌then◌else◌}
use mathlib.Core.Bool.{true, false, true≢false}
use mathlib.Core.List.{List, [], ◌∷◌, ◌++◌}
use mathlib.Core.Logic.{◌≢◌}
use mathlib.Core.Path.{◌≡◌, refl, sym, ap, subst, ◌∙◌}
use Prim.Native.Nat.{ℕ, suc, ◌+◌, ◌*◌, ◌/◌, ◌%◌, ◌≤◌, ◌<◌}
use native.Mathlib.Omega.{arith}
use native.Mathlib.Decide.{ℕ_discrete}
use native.Mathlib.Numerals.{add-one}
use borrow.Author.Tests.{ne_eqb, lt-ltb, ltb-true}
use lib.IntN.{ℤ}
use lib.ListN.{get_or, set, drop, length, length-set, length-append}
use lib.Seq.{set-get_or}
use Rattle.numbers.specs.Choice.{◌<?◌, ◌=?◌}
use Rattle.numbers.specs.Signed.{high_z}
use Rattle.numbers.proofs.Choice.{tested, chosen, chosen_both}
use Rattle.numbers.specs.Bits.{bit, with_bit}
use Rattle.numbers.proofs.Bits.{bit_here, bit_there}
use Rattle.sound.specs.Sound.{even}
use Rattle.numbers.specs.Listed.{turns}
use Rattle.dsp.specs.Noise.{noise_tick, noise_sample}
use Rattle.dsp.specs.Machine.{no_voice, Parts, Globals}
use Rattle.dsp.specs.Keys.{silenced, polled_delay}
use Rattle.dsp.specs.Registers.{resets, write_voice, globals_after, taps_after, write_parts}
use Rattle.dsp.specs.Voice.{PitchSource, modulated_by}
use Rattle.dsp.specs.Mix.{Stereo}
use Rattle.dsp.specs.Sheet.{pair_bytes, lane_bytes, lane_at}
use Rattle.dsp.specs.Echo.{Echo, EchoLane, echo_written, echo_tick, echo_lane}
use Rattle.dsp.specs.Lane.{waited, source_of, Cell, polled_of, waited_of, cell_after, cell_of, put_bytes, added, own_cell, turned, Shared}
use Rattle.dsp.specs.Tick.{Round, turn, voices_tick, globals_tick, shared_of, everything, start_of, Ticked, tick_of, polls, kon_now}
use Rattle.dsp.specs.declared.voice.Voice.{Voice}
use Rattle.dsp.specs.declared.tick.Work.{Work}
use Rattle.dsp.proofs.Ticks.{RoundFit, fit-kept-turn}
use Rattle.dsp.proofs.Whole.{full}
use Rattle.dsp.proofs.Tests.{lt, ◌and◌}
use Rattle.dsp.proofs.Batches.{lane_part}
use Rattle.numbers.proofs.Lists.{map_both}
use Rattle.rework.specs.Alike.{named}
use Rattle.rework.specs.Members.{Fields, modes_after, joined_by}
use Rattle.rework.specs.Differ.{Outside, SameBytes, SameBut}
use Rattle.rework.proofs.Bits.{itself, unless, joined_more, joined_closed}
use Rattle.rework.proofs.Lanes.{cell_in, slot_of, lane_last}
use Rattle.rework.proofs.Right.{set_both, turns-both, Good, good_write, good_tick}
use Rattle.rework.proofs.Tape.{Beat, put, tick, ask, Small, keep, modes_in, Quiet, joins, tape, modes_tick, SameLanes, none, more, Kept}

-- ---- lengths

pub record Sized (p : Parts) : Type 0 where
  pub registers : length p.registers ≡ 128
  pub voices : length p.voices ≡ 8
  pub delays : length p.delays ≡ 8

-- ---- two runs side by side

-- lists of eight that agree outside the set
abbrev SameAt : {A : Type 0} → ℕ → A → List A → List A → Type 0
SameAt a d xs ys = (j : ℕ) → j < 8 → Outside a j → get_or xs j d ≡ get_or ys j d

same_set : {A : Type 0} (a : ℕ) (d : A) (xs ys : List A) (n : ℕ) (v w : A) → length xs ≡ length ys → (Outside a n → v ≡ w) → SameAt a d xs ys → SameAt a d (set xs n v) (set ys n w)
same_set a d xs ys n v w l h s = λ j k o. set_both ◌≡◌ d xs ys n v w l j (λ e. h (rw e at o)) (s j k o)

-- bytes that may be stored at m on the two sides
record Storable (a m v w : ℕ) : Type 0 where
  own : m % 16 < 10 → Outside a (m / 16) → v ≡ w
  endx : m ≡ 0x7C → (j : ℕ) → j < 8 → Outside a j → bit v j ≡ bit w j
  others : 10 ≤ m % 16 → m ≢ 0x7C → v ≡ w

storable_same : (a m v : ℕ) → Storable a m v v
storable_same a m v = record { own = λ l o. refl; endx = λ e j l o. refl; others = λ l e. refl }

storable_own : (a j k v w : ℕ) → k < 10 → (Outside a j → v ≡ w) → Storable a (j * 16 + k) v w
storable_own a j k v w l h =
    let e : (j * 16 + k) / 16 ≡ j = omega arith in
    record { own = λ m o. h (rw e at o); endx = λ f. absurd (omega arith); others = λ m f. absurd (omega arith) }

bytes-set : (a : ℕ) (x y : List ℕ) (m v w : ℕ) → length x ≡ length y → Storable a m v w → SameBytes a x y → SameBytes a (set x m v) (set y m w)
bytes-set a x y m v w l h s =
    record {
      own = λ j n lj ln o. set_both ◌≡◌ 0 x y m v w l (j * 16 + n) (λ e. let q : j ≡ m / 16 = omega arith in h.own (omega arith) (rw q at o)) (s.own j n lj ln o);
      endx = λ j lj o. set_both (λ (b c : ℕ). bit b j ≡ bit c j) 0 x y m v w l 0x7C (λ e. h.endx (sym e) j lj o) (s.endx j lj o);
      others = λ n ln t u. set_both ◌≡◌ 0 x y m v w l n (λ e. h.others (omega arith) (λ z. u (e ∙ z))) (s.others n ln t u);
    }

-- ---- a write

-- the arrays of two fit rounds are as long
module _ {r s : Round} (h : RoundFit r) (k : RoundFit s) where
  bytes_long : length r.bytes ≡ length s.bytes
  bytes_long = h.bytes ∙ sym k.bytes

  voices_long : length r.voices ≡ length s.voices
  voices_long = h.count ∙ sym k.count

  delays_long : length r.delays ≡ length s.delays
  delays_long = h.waits ∙ sym k.waits

-- on both sides
both-write : (i x a : ℕ) (p q : Parts) → i < 128 → RoundFit (start_of p) → RoundFit (start_of q) → SameBut a p q → SameBut a (write_parts i x p) (write_parts i x q)
unfolding write_parts
both-write i x a p q l h k s =
    let e = bytes_long h k in
    let f = voices_long h k in
    let b : (y : ℕ) → SameBytes a (set p.registers i y) (set q.registers i y) = (λ y. bytes-set a p.registers q.registers i y y e (storable_same a i y) s.bytes) in
    record {
      bytes = chosen_both (SameBytes a) (resets i x) (bytes-set a (set p.registers i x) (set q.registers i x) 0x7C 0 0 (simp length-set e) (storable_same a 0x7C 0) (b x)) (b _);
      voices =
          chosen_both (SameAt a no_voice) (i % 16 <? 8)
          (same_set a no_voice p.voices q.voices (i / 16) _ _ f (λ o. ap (write_voice (i % 16) x) (s.voices (i / 16) (omega arith) o)) s.voices)
          (chosen_both (SameAt a no_voice) (resets i x) (λ j b o. map_both ◌≡◌ silenced no_voice (λ v w e. ap silenced e) p.voices q.voices f j (s.voices j b o)) s.voices);
      delays = s.delays;
      taps = ap (taps_after i x) s.taps;
      left = s.left;
      right = s.right;
      globals = ap (globals_after i x) s.globals;
    }

-- a register of a voice is none of the globals
not_global : (i : ℕ) → i % 16 < 8 → (k : ℕ) → (7 <? k % 16) ≡ true → (i =? k) ≡ false
not_global i l k m = ne_eqb i k (λ e. absurd (omega (arith, ltb-true 7 (k % 16) m)))

-- by a voice of the set, to its own registers, on one side
own-write : (i x a : ℕ) (p q : Parts) → i < 128 → i % 16 < 8 → bit a (i / 16) ≡ true → RoundFit (start_of p) → RoundFit (start_of q) → SameBut a p q → SameBut a (write_parts i x p) q
unfolding write_parts
own-write i x a p q l m t h k s =
    let inside : Outside a (i / 16) → ⊥ = (λ o. true≢false (sym t ∙ o)) in
    let b = bytes-set a p.registers q.registers i x (get_or q.registers i 0) (bytes_long h k) (record { own = λ n o. absurd (inside o); endx = λ e. absurd (omega arith); others = λ n e. absurd (omega arith) }) s.bytes in
    let v = same_set a no_voice p.voices q.voices (i / 16) (write_voice (i % 16) x (get_or p.voices (i / 16) no_voice)) (get_or q.voices (i / 16) no_voice) (voices_long h k) (λ o. absurd (inside o)) s.voices in
    record {
      bytes = rw (not_global i m 0x6C refl, not_global i m 0x7C refl) (rw (set-get_or q.registers i 0) at b);
      voices = rw (lt-ltb _ _ m) (rw (set-get_or q.voices (i / 16) no_voice) at v);
      delays = s.delays;
      taps = rw (ne_eqb (i % 16) 15 (omega arith)) s.taps;
      left = s.left;
      right = s.right;
      globals = simp (not_global i m) s.globals;
    }

-- ---- a greater set

abbrev Within : ℕ → ℕ → Type 0
Within a b = (j : ℕ) → j < 8 → bit a j ≡ true → bit b j ≡ true

outside_mono : (a b : ℕ) → Within a b → (j : ℕ) → j < 8 → Outside b j → Outside a j
outside_mono a b h j l o = unless (bit a j) (λ e. true≢false (sym (h j l e) ∙ o))

same_mono : (a b : ℕ) (p q : Parts) → Within a b → SameBut a p q → SameBut b p q
same_mono a b p q h s =
    let o = outside_mono a b h in
    record {
      bytes =
          record {
            own = λ j k l m n. s.bytes.own j k l m (o j l n);
            endx = λ j l n. s.bytes.endx j l (o j l n);
            others = s.bytes.others;
          };
      voices = λ j l n. s.voices j l (o j l n);
      delays = λ j l n. s.delays j l (o j l n);
      taps = s.taps;
      left = s.left;
      right = s.right;
      globals = s.globals;
    }

lanes_mono : (a b : ℕ) (x y : List ℕ) → Within a b → SameLanes a x y → SameLanes b x y
lanes_mono a b x y h s = λ j l o. s j l (λ k. outside_mono a b h j k (o k))

joins_more : (bs : List Beat) (m : Fields) (a : ℕ) → Within a (joins bs m a)
unfolding joins
joins_more [] m a j l h = h
joins_more (put i x ∷ bs) m a j l h = joins_more bs (modes_after i x m) a j l h
joins_more (tick ∷ bs) m a j l h = joins_more bs m (joined_by m.pmon a) j l (joined_more m.pmon a j l h)
joins_more (ask r ∷ bs) m a j l h = joins_more bs m a j l h

-- ---- a turn

-- a cell is what its source, its voice, its delay, two bytes of its own and its ENDX bit make it; the pitch source does not see what the
-- voice before gave where PMON does not select it
cell_same : (c : Shared) (ram : List ℕ) (j : ℕ) (x y : ℤ) (b k : List ℕ) {v w : Voice} {d e : ℕ} → (bit c.pmon j ≡ true → x ≡ y) → v ≡ w → d ≡ e
    → get_or b (j * 16 + 4) 0 ≡ get_or k (j * 16 + 4) 0 → get_or b (j * 16 + 8) 0 ≡ get_or k (j * 16 + 8) 0 → bit (get_or b 0x7C 0) j ≡ bit (get_or k 0x7C 0) j
    → own_cell c ram j x v d b ≡ own_cell c ram j y w e k
unfolding own_cell cell_of waited_of source_of
cell_same c ram j x y b k h ev ed e4 e8 ex =
    let es : source_of c.pmon j x ≡ source_of c.pmon j y = tested (λ (z : PitchSource). z ≡ source_of c.pmon j y) (bit c.pmon j) (λ t. rw t (ap modulated_by (h t))) (λ t. rw t) in
    λ i.
    cell_after c j (waited ram c.dir (e4 i) (es i) (e8 i) (polled_delay (bit c.kon j) (ed i)) (polled_of c j (ev i) (ex i)))

-- a lane put behind n others
lanes_more : (O : ℕ → Type 0) (n : ℕ) (x y u v : List ℕ) → length x ≡ n * 4 → length y ≡ n * 4 → length u ≡ 4 → length v ≡ 4 → (O n → u ≡ v)
    → ((j : ℕ) → j < n → O j → lane_at j x ≡ lane_at j y) → (j : ℕ) → j < suc n → O j → lane_at j (x ++ u) ≡ lane_at j (y ++ v)
lanes_more O n x y u v lx ly lu lv e h j l o =
    elim (ℕ_discrete j n) [
      | yes p ↦ rw p (lane_last n x u lx lu ∙ e (rw p at o) ∙ sym (lane_last n y v ly lv))
      | no p ↦ lane_part j x u (omega arith) ∙ h j (omega arith) o ∙ sym (lane_part j y v (omega arith))
    ]

-- what a turn leaves in the bytes
put_same : (a j : ℕ) (x y : Cell) (b k : List ℕ) → length b ≡ length k → (Outside a j → x ≡ y) → SameBytes a b k
    → SameBytes a (put_bytes j x.envx x.out x.endx b) (put_bytes j y.envx y.out y.endx k)
unfolding put_bytes
put_same a j x y b k l e s =
    let s₁ = bytes-set a b k (j * 16 + 8) x.envx y.envx l (storable_own a j 8 x.envx y.envx (omega arith) (λ o i. (e o i).envx)) s in
    let s₂ = bytes-set a _ _ (j * 16 + 9) (high_z x.out) (high_z y.out) (simp length-set l) (storable_own a j 9 (high_z x.out) (high_z y.out) (omega arith) (λ o i. high_z (e o i).out)) s₁ in
    let at : (v w : ℕ) (i : ℕ) → Outside a i → bit v i ≡ bit w i → bit (with_bit v j x.endx) i ≡ bit (with_bit w j y.endx) i =
    (λ v w i o h.
    elim (ℕ_discrete i j) [
      | yes p ↦ rw p (bit_here v j x.endx ∙ (λ n. (e (rw p at o) n).endx) ∙ sym (bit_here w j y.endx))
      | no p ↦ bit_there v j i x.endx p ∙ h ∙ sym (bit_there w j i y.endx p)
    ]) in
    bytes-set a _ _ 0x7C _ _ (simp length-set l) (record { own = λ m. absurd (omega arith); endx = λ f i m o. at _ _ i o (s₂.endx i m o); others = λ m f. absurd (f refl) }) s₂

-- two rounds before voice n, that agree outside the set
record Beside (a pmon n : ℕ) (r s : Round) : Type 0 where
  fit₁ : RoundFit r
  fit₂ : RoundFit s
  bytes : SameBytes a r.bytes s.bytes
  voices : SameAt a no_voice r.voices s.voices
  delays : SameAt a 0 r.delays s.delays
  row₁ : length r.row ≡ n * 4
  row₂ : length s.row ≡ n * 4
  lanes : (j : ℕ) → j < n → Outside a j → lane_at j r.row ≡ lane_at j s.row
  prev : n < 8 → Outside a n → bit pmon n ≡ true → r.sums.prev ≡ s.sums.prev

-- a set that no voice joins under a PMON, so that a voice outside that is modulated is modulated from outside
abbrev Closed : ℕ → ℕ → Type 0
Closed a pmon = (j : ℕ) → j < 7 → bit a j ≡ true → bit pmon (j + 1) ≡ true → bit a (j + 1) ≡ true

before : (a pmon n : ℕ) → Closed a pmon → n < 7 → Outside a (suc n) → bit pmon (suc n) ≡ true → Outside a n
before a pmon n h l o e = unless (bit a n) (λ f. true≢false (sym (h n l f (rw (add-one n) e)) ∙ rw (add-one n) o))

beside_turn : (a : ℕ) (c : Shared) (ram o₁ o₂ : List ℕ) (n : ℕ) (r s : Round) → n < 8 → Closed a c.pmon → Beside a c.pmon n r s
    → Beside a c.pmon (suc n) (turn 0xFF o₁ c ram n r) (turn 0xFF o₂ c ram n s)
unfolding turn turned added lane_bytes
beside_turn a c ram o₁ o₂ n r s l h b =
    let x = cell_in c ram n r in
    let y = cell_in c ram n s in
    let e : Outside a n → x ≡ y =
    (λ o. cell_same c ram n r.sums.prev s.sums.prev r.bytes s.bytes (b.prev l o) (b.voices n l o) (b.delays n l o) (b.bytes.own n 4 l (omega arith) o) (b.bytes.own n 8 l (omega arith) o) (b.bytes.endx n l o)) in
    let f₁ = fit-kept-turn 0xFF o₁ c ram n r l b.fit₁ in
    let f₂ = fit-kept-turn 0xFF o₂ c ram n s l b.fit₂ in
    rw (full n l)
    (record {
      fit₁ = rw (full n l) at f₁;
      fit₂ = rw (full n l) at f₂;
      bytes = put_same a n x y r.bytes s.bytes (bytes_long b.fit₁ b.fit₂) e b.bytes;
      voices = same_set a no_voice r.voices s.voices n x.voice y.voice (voices_long b.fit₁ b.fit₂) (λ o i. (e o i).voice) b.voices;
      delays = same_set a 0 r.delays s.delays n x.delay y.delay (delays_long b.fit₁ b.fit₂) (λ o i. (e o i).delay) b.delays;
      row₁ = length-append r.row (slot_of x) ∙ omega (arith, b.row₁);
      row₂ = length-append s.row (slot_of y) ∙ omega (arith, b.row₂);
      lanes = lanes_more (Outside a) n r.row s.row (slot_of x) (slot_of y) b.row₁ b.row₂ refl refl (λ o i. slot_of (e o i)) b.lanes;
      prev = λ m o t i. even (e (before a c.pmon n h (omega arith) o t) i).out;
    })

-- ---- a tick

-- with FLG bit 5 set RAM is as it was
ram-kept : (w : Work) (old : List ℕ) (p : Parts) (ram : List ℕ) → bit p.globals.flg 5 ≡ true → (tick_of w old p ram).ram ≡ ram
unfolding tick_of echo_lane echo_tick echo_written globals_tick
ram-kept w old p ram e = chosen (λ (x : EchoLane). x.echo.ram ≡ ram) w.echo (rw e) refl

-- what all voices see
shared_same : (a : ℕ) (p q : Parts) → SameBut a p q → shared_of p.globals p.registers ≡ shared_of q.globals q.registers
shared_same a p q s =
    let koff = s.bytes.others 0x5C (omega arith) (omega arith) (omega arith) in
    let dir = s.bytes.others 0x5D (omega arith) (omega arith) (omega arith) in
    λ i.
    let g = s.globals i in
    record { koff = if polls g then koff i else 0; kon = kon_now g; dir_base = g.dir_base; dir = dir i; non = g.non; pmon = g.pmon; eon = g.eon; noise = noise_sample (noise_tick g.flg g.noise) }

-- the echo's record does not see what the voices put into it
abbrev echo_in : Parts → List ℕ → Stereo → Echo
echo_in p ram input = echo_tick (globals_tick p.globals) p.taps p.left p.right ram input

echo-same : (a : ℕ) (p q : Parts) (ram : List ℕ) (x y : Stereo) → SameBut a p q
    → ((echo_in p ram x).globals ≡ (echo_in q ram y).globals) × ((echo_in p ram x).left ≡ (echo_in q ram y).left) × ((echo_in p ram x).right ≡ (echo_in q ram y).right)
unfolding echo_tick
echo-same a p q ram x y s =
    let e : echo_in p ram x ≡ echo_in q ram x = (λ i. echo_tick (globals_tick (s.globals i)) (s.taps i) (s.left i) (s.right i) ram x) in
    (λ i. (e i).globals, λ i. (e i).left, λ i. (e i).right)

-- two ticks that agree outside the set
record Alongside (a : ℕ) (t u : Ticked) : Type 0 where
  parts : SameBut a t.parts u.parts
  lanes : SameLanes a t.row u.row

tick_same : (a : ℕ) (o₁ o₂ : List ℕ) (p q : Parts) (ram : List ℕ) → RoundFit (start_of p) → RoundFit (start_of q) → Closed a p.globals.pmon → SameBut a p q
    → Alongside a (tick_of everything o₁ p ram) (tick_of everything o₂ q ram)
unfolding tick_of voices_tick echo_lane pair_bytes
tick_same a o₁ o₂ p q ram h k l s =
    let c = shared_of p.globals p.registers in
    let d = shared_of q.globals q.registers in
    let r = turns (turn 0xFF o₁ c ram) 8 (start_of p) in
    let t = turns (turn 0xFF o₂ d ram) 8 (start_of q) in
    let b : Beside a c.pmon 8 r t =
    subst (λ (z : Shared). Beside a c.pmon 8 r (turns (turn 0xFF o₂ z ram) 8 (start_of q))) (shared_same a p q s)
    (turns-both (Beside a c.pmon) (turn 0xFF o₁ c ram) (turn 0xFF o₂ c ram) 8 (λ n r t m x. beside_turn a c ram o₁ o₂ n r t m l x) 8 (start_of p) (start_of q) (omega arith)
    (record { fit₁ = h; fit₂ = k; bytes = s.bytes; voices = s.voices; delays = s.delays; row₁ = refl; row₂ = refl; lanes = λ j m. absurd (omega arith); prev = λ m o t. refl })) in
    let e = echo-same a p q ram r.sums.input t.sums.input s in
    let slot : Globals → List ℕ = (λ g. pair_bytes g.echo_out_l g.echo_out_r) in
    record {
      parts = record { bytes = b.bytes; voices = b.voices; delays = b.delays; taps = s.taps; left = e.1; right = e.2; globals = e.0 };
      lanes =
          lanes_more (λ (j : ℕ). j < 8 → Outside a j) 8 r.row t.row (slot (echo_in p ram r.sums.input).globals) (slot (echo_in q ram t.sums.input).globals) b.row₁ b.row₂ refl refl
          (λ o. ap slot e.0) (λ j m o. b.lanes j m (o m));
    }

-- ---- a run

pub kept : (s : ℕ) (bs : List Beat) (a : ℕ) (o₁ o₂ : List ℕ) (p q : Parts) (ram : List ℕ) → length ram ≡ 0x10000 → Small bs → Good p → Good q
    → ((j : ℕ) → j < 8 → bit s j ≡ true → bit a j ≡ true) → SameBut a p q → Quiet bs (modes_in p.globals)
    → Kept (joins bs (modes_in p.globals) a) ram (tape everything bs o₁ p ram) (tape everything (keep s bs) o₂ q ram)
unfolding Small keep Quiet joins tape write_parts
kept s [] a o₁ o₂ p q ram r m h k w e t = record { parts = e; rows = none; left = refl; right = refl }
kept s (put i x ∷ bs) a o₁ o₂ p q ram r m h k w e t =
    let b = joins bs (modes_after i x (modes_in p.globals)) a in
    let p₁ = write_parts i x p in
    let h₁ = good_write i x p m.0 m.1 h in
    tested (λ (cs : List Beat). Kept b ram (tape everything bs o₁ p₁ ram) (tape everything cs o₂ q ram)) (named s i)
    (λ n.
    let f = (lt (i % 16) 8 and itself (bit s (i / 16))).sound n in
    kept s bs a o₁ o₂ p₁ q ram r m.2 h₁ k w (own-write i x a p q m.0 f.0 (w (i / 16) (omega (arith, m.0)) f.1) h.round.fit k.round.fit e) t)
    (λ n. kept s bs a o₁ o₂ p₁ (write_parts i x q) ram r m.2 h₁ (good_write i x q m.0 m.1 k) w (both-write i x a p q m.0 h.round.fit k.round.fit e) t)
kept s (tick ∷ bs) a o₁ o₂ p q ram r m h k w e t =
    let pmon = p.globals.pmon in
    let b = joined_by pmon a in
    let x = tick_of everything o₁ p ram in
    let y = tick_of everything o₂ q ram in
    let z = tick_same b o₁ o₂ p q ram h.round.fit k.round.fit (joined_closed pmon a) (same_mono a b p q (joined_more pmon a) e) in
    let c = joins bs (modes_in p.globals) b in
    let n = modes_tick everything o₁ p ram in
    let v = kept s bs b (drop 36 o₁) (drop 36 o₂) x.parts y.parts ram r m (good_tick everything o₁ p ram r h) (good_tick everything o₂ q ram r k) (λ j l n. joined_more pmon a j l (w j l n)) z.parts (rw n t.1) in
    let u = rw n at v in
    rw (ram-kept everything o₁ p ram t.0, ram-kept everything o₂ q ram (rw (← e.globals) t.0))
    (record { parts = u.parts; rows = more (lanes_mono b c x.row y.row (joins_more bs (modes_in p.globals) b) z.lanes) u.rows; left = u.left; right = u.right })
kept s (ask i ∷ bs) a o₁ o₂ p q ram r m h k w e t =
    let z = kept s bs a o₁ o₂ p q ram r m h k w e t in
    record { parts = z.parts; rows = z.rows; left = z.left; right = z.right }
