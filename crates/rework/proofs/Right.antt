-- A rework over any old sheet that agrees outside the set gives the run of the same log: lane by lane, tick by tick, beat by beat.
use Rattle.std.proofs.Common.{if◌then◌else◌}
use mathlib.Core.Bool.{Bool, true, false}
use mathlib.Core.List.{List, [], ◌∷◌, ◌++◌}
use mathlib.Core.Path.{◌≡◌, refl, sym, ap, subst, ◌∙◌}
use Prim.Native.Nat.{ℕ, zero, suc, ◌+◌, ◌*◌, ◌/◌, ◌%◌, ◌≤◌, ◌<◌}
use native.Mathlib.Omega.{arith}
use lib.IntN.{ℤ, pos}
use lib.ListN.{get_or, set, drop, replicate, length, length-set, length-append, length-replicate, length-map}
use Rattle.numbers.specs.Choice.{◌<?◌, ◌=?◌}
use Rattle.numbers.specs.Signed.{cut_z}
use Rattle.numbers.proofs.Choice.{chosen, chosen_both}
use Rattle.numbers.proofs.Lists.{map_both}
use Rattle.numbers.specs.Bits.{bit}
use Rattle.sound.specs.Sound.{joined}
use Rattle.numbers.specs.Listed.{turns}
use Rattle.dsp.specs.Noise.{noise_tick}
use Rattle.dsp.specs.Machine.{no_voice, Parts, apart, Globals}
use Rattle.dsp.specs.With.{with_echo}
use Rattle.dsp.specs.Fit.{FitGlobals, Fit}
use Rattle.dsp.specs.Keys.{silenced}
use Rattle.dsp.specs.Registers.{at, write_voice, resets, bytes_after, voices_after, globals_after, write_parts}
use Rattle.dsp.specs.Mix.{master_of, Stereo}
use Rattle.dsp.specs.Sheet.{pair_bytes, lane_bytes, lane_at}
use Rattle.dsp.specs.Echo.{echo_now, history_now, echo_moved, echo_written, echo_tick, echo_from, echo_lane}
use Rattle.dsp.specs.Lane.{Cell, cell_after, cell_of, own_cell, shown_cell, added, put_bytes, landed, turned, Shared}
use Rattle.dsp.specs.Tick.{Round, landing, turn, voices_tick, globals_tick, shared_of, everything, start_of, Ticked, frame_of, mixed, tick_of}
use Rattle.dsp.specs.Ticks.{bench_tick}
use Rattle.dsp.specs.declared.voice.Voice.{Voice}
use Rattle.dsp.specs.declared.registers.Dsp.{Dsp}
use Rattle.dsp.specs.declared.tick.Work.{Work}
use Rattle.dsp.proofs.Whole.{full}
use Rattle.numbers.proofs.Turns.{turns_keep, set_keeps}
use Rattle.dsp.proofs.Lanes.{fit-kept_either}
use Rattle.dsp.proofs.Batches.{lane_part}
use Rattle.dsp.proofs.Ticks.{RoundFit, BenchFit, fit-kept-turn, fit-kept-bench, fit-kept-bench-write}
use Rattle.dsp.proofs.Fits.{level_fit}
use Rattle.dsp.proofs.Moves.{volumes_kept}
use Rattle.rework.specs.Differ.{Outside, Value}
use Rattle.rework.proofs.Lanes.{cell_in, slot_of, lane_last}
use Rattle.rework.proofs.Sixteen.{Is16, joined_halves, output16, fir16, noise16, sample16}
use Rattle.rework.proofs.Tape.{Beat, put, tick, ask, Small, Quiet, modes_in, tape, modes_tick, SameLanes, bare, Sim, Over, upon, Right}

-- ---- two lists side by side

-- after a store into both at n
pub set_both : {A : Type 0} (R : A → A → Type 0) (d : A) (xs ys : List A) (n : ℕ) (x y : A) → length xs ≡ length ys
    → (m : ℕ) → (m ≡ n → R x y) → R (get_or xs m d) (get_or ys m d) → R (get_or (set xs n x) m d) (get_or (set ys n y) m d)
set_both R d [] [] n x y e m p h = h
set_both R d [] (w ∷ ys) n x y e m p h = absurd (omega arith)
set_both R d (v ∷ xs) [] n x y e m p h = absurd (omega arith)
set_both R d (v ∷ xs) (w ∷ ys) zero x y e zero p h = p refl
set_both R d (v ∷ xs) (w ∷ ys) zero x y e (suc m) p h = h
set_both R d (v ∷ xs) (w ∷ ys) (suc n) x y e zero p h = h
set_both R d (v ∷ xs) (w ∷ ys) (suc n) x y e (suc m) p h = set_both R d xs ys n x y (omega arith) m (λ q. p (ap suc q)) h

-- the turns of two runs, by what each turn keeps between them
pub turns-both : {A B : Type 0} (R : ℕ → A → B → Type 0) (f : ℕ → A → A) (g : ℕ → B → B) (k : ℕ) → ((n : ℕ) (a : A) (b : B) → n < k → R n a b → R (suc n) (f n a) (g n b))
    → (n : ℕ) (a : A) (b : B) → n ≤ k → R 0 a b → R n (turns f n a) (turns g n b)
unfolding turns
turns-both R f g k h zero a b l p = p
turns-both R f g k h (suc n) a b l p = h n (turns f n a) (turns g n b) (omega arith) (turns-both R f g k h n a b (omega arith) p)

-- a voice of a rework and of the run: the same in the set, and with the same volumes everywhere
record Near (inside : Bool) (v w : Voice) : Type 0 where
  same : inside ≡ true → v ≡ w
  left : v.left_vol ≡ w.left_vol
  right : v.right_vol ≡ w.right_vol

abbrev Beside : ℕ → List Voice → List Voice → Type 0
Beside a vs ws = (j : ℕ) → j < 8 → Near (bit a j) (get_or vs j no_voice) (get_or ws j no_voice)

beside_set : (a n : ℕ) (vs ws : List Voice) (v w : Voice) → length vs ≡ length ws → Beside a vs ws → Near (bit a n) v w → Beside a (set vs n v) (set ws n w)
beside_set a n vs ws v w l h e = λ j m. set_both (Near (bit a j)) no_voice vs ws n v w l j (λ q. rw q e) (h j m)

-- ---- a register write

beside_write : (a i x : ℕ) (vs ws : List Voice) → i < 128 → length vs ≡ length ws → Beside a vs ws → Beside a (voices_after i x vs) (voices_after i x ws)
beside_write a i x vs ws l c h =
    let b = h (i / 16) (omega arith) in
    let volume : ℕ → ℤ → ℤ = (λ k y. at (i % 16) k (cut_z 0x80 (pos x)) y) in
    chosen_both (Beside a) (i % 16 <? 8)
    (beside_set a (i / 16) vs ws _ _ c h (record { same = λ t. ap (write_voice (i % 16) x) (b.same t); left = ap (volume 0) b.left; right = ap (volume 1) b.right }))
    (chosen_both (Beside a) (resets i x)
    (λ j m. map_both (Near (bit a j)) silenced no_voice (λ v w e. record { same = λ t. ap silenced (e.same t); left = e.left; right = e.right }) vs ws c j (h j m))
    h)

-- ---- one lane

-- two cells that show the same
record Shows (x y : Cell) : Type 0 where
  out : x.out ≡ y.out
  envx : x.envx ≡ y.envx
  endx : x.endx ≡ y.endx
  left : x.voice.left_vol ≡ y.voice.left_vol
  right : x.voice.right_vol ≡ y.voice.right_vol

endx_read : (b : Bool) → ((if b then 1 else 0) % 2 =? 1) ≡ b
endx_read true = refl
endx_read false = refl

-- a lane of the sheet shows the cell that it was made of
shown_read : (y : Cell) (v : Voice) (delay : ℕ) → Is16 y.out → v.left_vol ≡ y.voice.left_vol → v.right_vol ≡ y.voice.right_vol
    → Shows (shown_cell (slot_of y) v delay) y
unfolding shown_cell lane_bytes
shown_read y v delay h l r = record { out = joined_halves y.out h; envx = refl; endx = endx_read y.endx; left = l; right = r }

-- a rework's round beside the run's
record Abreast (a : ℕ) (r s : Round) : Type 0 where
  count : length r.voices ≡ length s.voices
  beside : Beside a r.voices s.voices
  waits : length r.delays ≡ length s.delays
  delays : (j : ℕ) → j < 8 → bit a j ≡ true → get_or r.delays j 0 ≡ get_or s.delays j 0
  bytes : r.bytes ≡ s.bytes
  sums : r.sums ≡ s.sums
  row : r.row ≡ s.row

-- cells that show the same leave the rounds abreast
land_both : (a j : ℕ) (w : Bool) (c : Shared) (r s : Round) (old new : List ℕ) (x y : Cell) → Abreast a r s → Shows x y → (bit a j ≡ true → x ≡ y)
    → (if w then slot_of x else old) ≡ slot_of y
    → Abreast a (landing j r (landed w c j r.sums r.bytes old x)) (landing j s (landed true c j s.sums s.bytes new y))
land_both a j w c r s old new x y h e q z =
    record {
      count = length-set r.voices j x.voice ∙ h.count ∙ sym (length-set s.voices j y.voice);
      beside = beside_set a j r.voices s.voices x.voice y.voice h.count h.beside (record { same = λ b k. (q b k).voice; left = e.left; right = e.right });
      waits = length-set r.delays j x.delay ∙ h.waits ∙ sym (length-set s.delays j y.delay);
      delays = λ n l b. set_both ◌≡◌ 0 r.delays s.delays j x.delay y.delay h.waits n (λ m k. (q (rw m at b) k).delay) (h.delays n l b);
      bytes = λ k. put_bytes j (e.envx k) (e.out k) (e.endx k) (h.bytes k);
      sums = λ k. added (bit c.eon j) (e.out k) (e.left k) (e.right k) (h.sums k);
      row = λ k. h.row k ++ z k;
    }

-- a voice of the set is worked by both; of another the rework shows what the run comes to
lane_both : (a j : ℕ) (w : Bool) (c : Shared) (ram : List ℕ) (r s : Round) (old new : List ℕ) → bit a j ≡ w → j < 8 → Abreast a r s → Is16 (cell_in c ram j s).out
    → (Outside a j → old ≡ slot_of (cell_in c ram j s))
    → Abreast a (landing j r (turned w c ram j (get_or r.voices j no_voice) (get_or r.delays j 0) r.sums r.bytes old))
    (landing j s (turned true c ram j (get_or s.voices j no_voice) (get_or s.delays j 0) s.sums s.bytes new))
unfolding turned
lane_both a j true c ram r s old new b l h o f =
    let x = cell_in c ram j r in
    let y = cell_in c ram j s in
    let e : x ≡ y = (λ k. own_cell c ram j (h.sums k).prev ((h.beside j l).same b k) (h.delays j l b k) (h.bytes k)) in
    land_both a j true c r s old new x y h
    (record { out = λ k. (e k).out; envx = λ k. (e k).envx; endx = λ k. (e k).endx; left = λ k. (e k).voice.left_vol; right = λ k. (e k).voice.right_vol })
    (λ _. e) (λ k. slot_of (e k))
lane_both a j false c ram r s old new b l h o f =
    let v = get_or r.voices j no_voice in
    let d = get_or r.delays j 0 in
    let y = cell_in c ram j s in
    let k = volumes_kept c ram j s.sums.prev (get_or s.voices j no_voice) (get_or s.delays j 0) s.bytes in
    let g = shown_read y v d o ((h.beside j l).left ∙ k.0) ((h.beside j l).right ∙ k.1) in
    land_both a j false c r s old new (shown_cell old v d) y h (rw (f b) g)
    (λ t. let z : ◌≡◌ {A = ℕ} 0 1 = cc in absurd (omega arith)) (f b)

-- ---- the run's rounds

-- every voice's sample has 16 bits
abbrev Samples16 : List Voice → Type 0
Samples16 vs = (j : ℕ) → j < 8 → Is16 (get_or vs j no_voice).current_sample

sample_set : (vs : List Voice) (n : ℕ) (v : Voice) → Is16 v.current_sample → Samples16 vs → Samples16 (set vs n v)
sample_set vs n v h k j l = set_keeps (λ (v : Voice). Is16 v.current_sample) no_voice vs n v h j (k j l)

-- fit, and with samples of 16 bits
pub record Sound (s : Round) : Type 0 where
  pub fit : RoundFit s
  pub samples : Samples16 s.voices

sound-turn : (mask : ℕ) (old : List ℕ) (c : Shared) (ram : List ℕ) → Is16 c.noise → (j : ℕ) (s : Round) → j < 8 → Sound s → Sound (turn mask old c ram j s)
unfolding turn turned
sound-turn mask old c ram n j s l h =
    let v = get_or s.voices j no_voice in
    let d = get_or s.delays j 0 in
    record {
      fit = fit-kept-turn mask old c ram j s l h.fit;
      samples = sample_set s.voices j _ (sample16 (bit mask j) c ram j s.sums.prev v d s.bytes (lane_at j old) n (h.samples j l)) h.samples;
    }

sound-turns : (mask : ℕ) (old : List ℕ) (c : Shared) (ram : List ℕ) → Is16 c.noise → (n : ℕ) (s : Round) → n ≤ 8 → Sound s → Sound (turns (turn mask old c ram) n s)
sound-turns mask old c ram n = turns_keep Sound (turn mask old c ram) 8 (sound-turn mask old c ram n)

-- what a sound voice puts out has 16 bits
out16 : (c : Shared) (ram : List ℕ) (j : ℕ) (s : Round) → Is16 c.noise → j < 8 → Sound s → Is16 (cell_in c ram j s).out
unfolding own_cell cell_of cell_after
out16 c ram j s n l h =
    let v = get_or s.voices j no_voice in
    let d = get_or s.delays j 0 in
    let x = (cell_in c ram j s).voice in
    let f = fit-kept_either true c ram j s.sums.prev v d s.bytes [] (h.fit.voices j) (h.fit.delays j).0 in
    output16 x.adsr.envelope_phase x.adsr.envelope_level x.current_sample (level_fit x f.voice)
    (sample16 true c ram j s.sums.prev v d s.bytes [] n (h.samples j l))

-- a turn puts its lane behind the row
row_more : (o : List ℕ) (c : Shared) (ram : List ℕ) (j : ℕ) (s : Round) → j < 8 → (turn 0xFF o c ram j s).row ≡ s.row ++ slot_of (cell_in c ram j s)
unfolding turn turned
row_more o c ram j s l = rw (full j l)

row_wide : (o : List ℕ) (c : Shared) (ram : List ℕ) (n : ℕ) (s : Round) → n ≤ 8 → length (turns (turn 0xFF o c ram) n s).row ≡ length s.row + n * 4
unfolding lane_bytes
row_wide o c ram n s l =
    let f = turn 0xFF o c ram in
    turns-both (λ (n : ℕ) (r t : Round). length r.row ≡ length s.row + n * 4) f f 8
    (λ n r t m e. ap length (row_more o c ram n r m) ∙ length-append r.row (slot_of (cell_in c ram n r)) ∙ omega arith) n s s l (omega arith)

-- ---- the voices of a tick

turn-both : (a : ℕ) (old o : List ℕ) (c : Shared) (ram : List ℕ) (j : ℕ) (r s : Round) → Is16 c.noise → j < 8 → Sound s → Abreast a r s
    → (Outside a j → lane_at j old ≡ slot_of (cell_in c ram j s)) → Abreast a (turn a old c ram j r) (turn 0xFF o c ram j s)
unfolding turn
turn-both a old o c ram j r s n l g h f = rw (full j l) (lane_both a j (bit a j) c ram r s (lane_at j old) (lane_at j o) refl l h (out16 c ram j s n l g) f)

-- over a sheet that has the run's lanes outside the set
turns_abreast : (a : ℕ) (old o : List ℕ) (c : Shared) (ram : List ℕ) (r s : Round) → Is16 c.noise → Sound s → Abreast a r s → s.row ≡ [] → (n : ℕ) → n ≤ 8
    → ((j : ℕ) → j < n → Outside a j → lane_at j old ≡ lane_at j (turns (turn 0xFF o c ram) n s).row)
    → Abreast a (turns (turn a old c ram) n r) (turns (turn 0xFF o c ram) n s)
unfolding turns lane_bytes
turns_abreast a old o c ram r s m g h z zero l f = h
turns_abreast a old o c ram r s m g h z (suc n) l f =
    let t = turns (turn 0xFF o c ram) n s in
    let y = slot_of (cell_in c ram n t) in
    let e = row_more o c ram n t (omega arith) in
    let k : length t.row ≡ n * 4 = row_wide o c ram n s (omega arith) ∙ omega (arith, ap length z) in
    turn-both a old o c ram n (turns (turn a old c ram) n r) t m (omega arith) (sound-turns 0xFF o c ram m n s (omega arith) g)
    (turns_abreast a old o c ram r s m g h z n (omega arith) (λ j i b. f j (omega arith) b ∙ ap (lane_at j) e ∙ lane_part j t.row y (omega arith)))
    (λ b. f n (omega arith) b ∙ ap (lane_at n) e ∙ lane_last n t.row y k refl)

-- ---- what is needed of the run's parts

pub record Good (p : Parts) : Type 0 where
  pub round : Sound (start_of p)
  pub globals : FitGlobals p.globals

pub good_start : (d : Dsp) → Value (apart d) → Fit d → Good (apart d)
good_start d v f =
    record {
      round = record { fit = record { bytes = v.registers; count = v.voices; waits = v.delays; voices = f.voices; delays = f.delays }; samples = v.samples };
      globals = f.globals;
    }

good_bench : (p : Parts) (ram old : List ℕ) → length ram ≡ 0x10000 → Good p → BenchFit (record { parts = p; ram = ram; pcm = []; sheet = []; old = old })
good_bench p ram old l g = record { ram = l; round = g.round.fit; globals = g.globals }

-- what all voices see of the noise
shared16 : (g : Globals) (bytes : List ℕ) → Is16 (shared_of g bytes).noise
shared16 g bytes = noise16 (noise_tick g.flg g.noise)

-- what a tick leaves
pub good_tick : (w : Work) (old : List ℕ) (p : Parts) (ram : List ℕ) → length ram ≡ 0x10000 → Good p → Good (tick_of w old p ram).parts
unfolding bench_tick tick_of voices_tick
good_tick w old p ram l g =
    let k = fit-kept-bench w (record { parts = p; ram = ram; pcm = []; sheet = []; old = old }) (good_bench p ram old l g) in
    let t = sound-turns w.voices old (shared_of p.globals p.registers) ram (shared16 p.globals p.registers) 8 (start_of p) (omega arith) g.round in
    record { round = record { fit = k.round; samples = t.samples }; globals = k.globals }

-- what a write leaves
pub good_write : (i x : ℕ) (p : Parts) → i < 128 → x < 256 → Good p → Good (write_parts i x p)
unfolding write_parts
good_write i x p l m g =
    let k = fit-kept-bench-write i x _ l m (good_bench p (replicate 0x10000 0) [] (length-replicate {A = ℕ} 0x10000 0) g) in
    let h = g.round.samples in
    record {
      round =
          record {
            fit = k.round;
            samples =
                chosen Samples16 (i % 16 <? 8) (sample_set p.voices (i / 16) _ (h (i / 16) (omega arith)) h)
                (chosen Samples16 (resets i x) (λ n b. map_both (λ (v w : Voice). Is16 v.current_sample) silenced no_voice (λ v w e. e) p.voices p.voices refl n (h n b)) h);
          };
      globals = k.globals;
    }

-- ---- a register write keeps a rework's parts beside the run's

sim_beside : (a : ℕ) (p q : Parts) → Sim a p q → Beside a p.voices q.voices
sim_beside a p q h = λ j l. record { same = h.voices j l; left = h.lefts j l; right = h.rights j l }

sim_write : (a i x : ℕ) (p q : Parts) → i < 128 → Sim a p q → Good q → Sim a (write_parts i x p) (write_parts i x q)
unfolding write_parts
sim_write a i x p q l h g =
    let b = beside_write a i x p.voices q.voices l (h.count ∙ sym g.round.fit.count) (sim_beside a p q h) in
    record {
      bytes = ap (bytes_after i x) h.bytes;
      count =
          chosen (λ (vs : List Voice). length vs ≡ 8) (i % 16 <? 8) (simp length-set h.count)
          (chosen (λ (vs : List Voice). length vs ≡ 8) (resets i x) (length-map p.voices silenced ∙ h.count) h.count);
      waits = h.waits;
      voices = λ j m. (b j m).same;
      lefts = λ j m. (b j m).left;
      rights = λ j m. (b j m).right;
      delays = h.delays;
      globals = ap (globals_after i x) h.globals;
    }

-- ---- a tick

-- the numbers without the echo's, after both ticks
globs_both : (g k : Globals) (slot : List ℕ) (l r : ℤ) → bare g ≡ bare k → bare (echo_from slot (globals_tick g)) ≡ bare (echo_moved (globals_tick k) l r)
unfolding echo_from echo_moved globals_tick
globs_both g k slot l r e = ap globals_tick e

shared_both : (g k : Globals) (x y : List ℕ) → bare g ≡ bare k → x ≡ y → shared_of g x ≡ shared_of k y
shared_both g k x y e d = λ i. shared_of (e i) (d i)

-- the stereo sample is of the echo's output and of numbers that are not the echo's
masters_both : (g k : Globals) (s t : Stereo) → bare g ≡ bare k → g.echo_out_l ≡ k.echo_out_l → g.echo_out_r ≡ k.echo_out_r → s ≡ t → master_of g s ≡ master_of k t
unfolding master_of
masters_both g k s t e l r d = λ i. master_of (with_echo (e i) 0 0 (l i) (r i)) (d i)

echo16 : (g : Globals) (ram : List ℕ) (k : ℕ) (taps history : List ℤ) → Is16 (echo_now g ram k taps history)
unfolding echo_now
echo16 g ram k taps history = fir16 (history_now g ram k history) taps

-- what a rework's tick t has of the run's u
record Same (a : ℕ) (ram : List ℕ) (t u : Ticked) : Type 0 where
  parts : Sim a t.parts u.parts
  frame : t.frame ≡ u.frame
  row : t.row ≡ u.row
  left : t.ram ≡ ram
  right : u.ram ≡ ram

-- echo and mix: the echo's lane of the old sheet is the run's
mixed-both : (a : ℕ) (slot found : List ℕ) (p q : Parts) (ram : List ℕ) (r s : Round) → bare p.globals ≡ bare q.globals → bit q.globals.flg 5 ≡ true → RoundFit s → Abreast a r s
    → slot ≡ (echo_lane true (globals_tick q.globals) q.taps q.left q.right ram s.sums.input found).slot
    → Same a ram (mixed p.taps r (echo_lane false (globals_tick p.globals) p.taps p.left p.right ram r.sums.input slot))
    (mixed q.taps s (echo_lane true (globals_tick q.globals) q.taps q.left q.right ram s.sums.input found))
unfolding echo_lane echo_tick echo_from echo_moved echo_written globals_tick pair_bytes
mixed-both a slot found p q ram r s e b f h z =
    let k = globals_tick q.globals in
    let l = echo_now k ram 0 q.taps q.left in
    let m = echo_now k ram 2 q.taps q.right in
    let g = globs_both p.globals q.globals slot l m e in
    record {
      parts =
          record {
            bytes = h.bytes;
            count = h.count ∙ f.count;
            waits = h.waits ∙ f.waits;
            voices = λ j m. (h.beside j m).same;
            lefts = λ j m. (h.beside j m).left;
            rights = λ j m. (h.beside j m).right;
            delays = h.delays;
            globals = g;
          };
      frame =
          ap frame_of
          (masters_both (echo_from slot (globals_tick p.globals)) (echo_moved k l m) r.sums.dry s.sums.dry g
          ((λ i. joined (get_or (z i) 0 0) (get_or (z i) 1 0)) ∙ joined_halves l (echo16 k ram 0 q.taps q.left))
          ((λ i. joined (get_or (z i) 2 0) (get_or (z i) 3 0)) ∙ joined_halves m (echo16 k ram 2 q.taps q.right))
          (λ i. (h.sums i).dry));
      row = λ i. h.row i ++ z i;
      left = refl;
      right = rw b;
    }

-- the whole tick, over a row that has the run's lanes outside the set and the echo's
tick_both : (a : ℕ) (old o : List ℕ) (p q : Parts) (ram : List ℕ) → Sim a p q → Good q → bit q.globals.flg 5 ≡ true → SameLanes a old (tick_of everything o q ram).row
    → Same a ram (tick_of (record { voices = a; echo = false }) old p ram) (tick_of everything o q ram)
unfolding tick_of voices_tick echo_lane pair_bytes
tick_both a old o p q ram h g b f =
    let c = shared_of q.globals q.registers in
    let d = shared_of p.globals p.registers in
    let s = turns (turn 0xFF o c ram) 8 (start_of q) in
    let slot = (echo_lane true (globals_tick q.globals) q.taps q.left q.right ram s.sums.input (lane_at 8 o)).slot in
    let n = shared16 q.globals q.registers in
    let k : length s.row ≡ 32 = row_wide o c ram 8 (start_of q) (omega arith) in
    let y : Abreast a (start_of p) (start_of q) =
    record { count = h.count ∙ sym g.round.fit.count; beside = sim_beside a p q h; waits = h.waits ∙ sym g.round.fit.waits; delays = h.delays; bytes = h.bytes; sums = refl; row = refl } in
    let u = turns_abreast a old o c ram (start_of p) (start_of q) n g.round y refl 8 (omega arith) (λ j l x. f j (omega arith) (λ _. x) ∙ lane_part j s.row slot (omega arith)) in
    let t = subst (λ (x : Shared). Abreast a (turns (turn a old x ram) 8 (start_of p)) s) (sym (shared_both p.globals q.globals p.registers q.registers h.globals h.bytes)) u in
    mixed-both a (lane_at 8 old) (lane_at 8 o) p q ram (turns (turn a old d ram) 8 (start_of p)) s h.globals b (sound-turns 0xFF o c ram n 8 (start_of q) (omega arith) g.round).fit t
    (f 8 (omega arith) (λ l. absurd (omega arith)) ∙ lane_last 8 s.row slot k refl)

-- ---- a log

over_first : {a : ℕ} {old r : List ℕ} {rs : List (List ℕ)} → Over a old (r ∷ rs) → SameLanes a old r × Over a (drop 36 old) rs
over_first (upon s h) = (s, h)

-- beat by beat
pub right : (a : ℕ) (bs : List Beat) (o old : List ℕ) (p q : Parts) (ram : List ℕ) → length ram ≡ 0x10000 → Small bs → Sim a p q → Good q
    → Quiet bs (modes_in q.globals) → Over a old (tape everything bs o q ram).rows
    → Right a (tape (record { voices = a; echo = false }) bs old p ram) (tape everything bs o q ram)
unfolding tape Small Quiet write_parts
right a [] o old p q ram l m h g k v = record { frames = refl; rows = refl; readings = refl; parts = h }
right a (put i x ∷ bs) o old p q ram l m h g k v =
    right a bs o old (write_parts i x p) (write_parts i x q) ram l m.2 (sim_write a i x p q m.0 h g) (good_write i x q m.0 m.1 g) k v
right a (tick ∷ bs) o old p q ram l m h g k v =
    let w : Work = record { voices = a; echo = false } in
    let t = tick_of w old p ram in
    let u = tick_of everything o q ram in
    let f = over_first v in
    let s = tick_both a old o p q ram h g k.0 f.0 in
    let r = right a bs (drop 36 o) (drop 36 old) t.parts u.parts ram l m s.parts (good_tick everything o q ram l g)
    (rw (modes_tick everything o q ram) k.1) (rw s.right at f.1) in
    rw (s.left, s.right) (record { frames = λ i. s.frame i ∷ r.frames i; rows = λ i. s.row i ∷ r.rows i; readings = r.readings; parts = r.parts })
right a (ask i ∷ bs) o old p q ram l m h g k v =
    let r = right a bs o old p q ram l m h g k v in
    record { frames = r.frames; rows = r.rows; readings = λ n. get_or (h.bytes n) i 0 ∷ r.readings n; parts = r.parts }

-- ---- the rows of a run

row_36 : (o : List ℕ) (q : Parts) (ram : List ℕ) → length (tick_of everything o q ram).row ≡ 36
unfolding tick_of voices_tick echo_lane pair_bytes
row_36 o q ram =
    let c = shared_of q.globals q.registers in
    let e = row_wide o c ram 8 (start_of q) (omega arith) in
    length-append (turns (turn 0xFF o c ram) 8 (start_of q)).row _ ∙ omega arith

unfoldable pub Sized36 : List (List ℕ) → Type 0
Sized36 [] = Unit {0}
Sized36 (r ∷ rs) = (length r ≡ 36) × Sized36 rs

pub rows_36 : (bs : List Beat) (o : List ℕ) (q : Parts) (ram : List ℕ) → Sized36 (tape everything bs o q ram).rows
unfolding tape Sized36
rows_36 [] o q ram = tt
rows_36 (put i x ∷ bs) o q ram = rows_36 bs o (write_parts i x q) ram
rows_36 (tick ∷ bs) o q ram = let t = tick_of everything o q ram in (row_36 o q ram, rows_36 bs (drop 36 o) t.parts t.ram)
rows_36 (ask i ∷ bs) o q ram = rows_36 bs o q ram
