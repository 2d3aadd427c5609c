-- A turn of the loop over the voices and of the loop over the ticks, on plain values: what each has done is the definition's, and
-- its lanes and rows stand in the sheet, and its samples in the PCM, behind what was there before.
use mathlib.Core.Bool.{Bool, false}
use mathlib.Core.List.{List, [], ◌++◌, append_assoc, append-nil}
use mathlib.Core.Path.{◌≡◌, refl, sym, ap, subst, ◌∙◌}
use Prim.Native.Nat.{ℕ, ◌+◌, ◌-◌, ◌*◌, ◌%◌, ◌≤◌, ◌<◌}
use native.Mathlib.Omega.{arith}
use native.Mathlib.Numerals.{add-one}
use lib.IntN.{ℤ}
use lib.ListN.{get_or, set, take, drop, length}
use lib.Seq.{drop-drop, set-get_or}
use borrow.Rule.Slice.PartMut.{put_mid, mid_of, put_same}
use Rattle.numbers.specs.Choice.{◌=?◌}
use Rattle.sound.specs.Sound.{joined}
use Rattle.numbers.proofs.Choice.{chosen}
use Rattle.numbers.proofs.Parts.{Written, written_to, rest_is, part_found, part_written, written_on}
use Rattle.numbers.specs.Bits.{bit}
use Rattle.numbers.specs.Listed.{turns}
use Rattle.dsp.specs.Machine.{no_voice, Parts, Globals}
use Rattle.dsp.specs.Mix.{master_of, Stereo}
use Rattle.dsp.specs.Sheet.{pair_bytes, lane_bytes, lane_at}
use Rattle.dsp.specs.Echo.{EchoLane, echo_lane}
use Rattle.dsp.specs.Lane.{Shared, shown_cell, put_bytes, Sums, added, Landed, turned}
use Rattle.dsp.specs.Tick.{Round, landing, turn, globals_tick, start_of, frame_of, parts_after, mixed, shared_of}
use Rattle.dsp.specs.Ticks.{Bench, onward, bench_tick, ticks_of}
use Rattle.dsp.specs.Inside.{heard}
use Rattle.dsp.specs.declared.voice.Voice.{Voice}
use Rattle.dsp.specs.declared.tick.Work.{Work}
use Rattle.dsp.proofs.Ticks.{RoundFit, BenchFit, fit-kept-turn, glued, fit-kept-bench}

-- lane j of the row that begins at `at`
lane_found : (at a b j : ℕ) (found sheet done : List ℕ) → a ≡ at + j * 4 → b ≡ a + 4 → Written found sheet a done
    → mid_of a (b - a) sheet ≡ lane_at j (drop at found)
lane_found at a b j found sheet done ea eb w =
    let k : b - a ≡ 4 = omega arith in
    ap (λ (n : ℕ). mid_of a n sheet) k ∙ part_found w 4 ∙ ap (λ (n : ℕ). take 4 (drop n found)) ea ∙ sym (ap (take 4) (drop-drop (j * 4) at found))

-- ---- the voices

abbrev pub round_of : List Voice → List ℕ → List ℕ → Sums → List ℕ → Round
round_of voices delays bytes acc row = record { voices = voices; delays = delays; bytes = bytes; sums = acc; row = row }

-- after v lanes of the row that begins at `at`
pub record Lanes (mask : ℕ) (c : Shared) (ram found : List ℕ) (at : ℕ) (start : Round) (v : ℕ) (sheet : List ℕ) (voices : List Voice) (delays bytes : List ℕ) (acc : Sums) : Type 0 where
  pub row : List ℕ
  pub fit : RoundFit (round_of voices delays bytes acc row)
  pub is : round_of voices delays bytes acc row ≡ turns (turn mask (drop at found) c ram) v start
  pub lanes : Written found sheet (at + v * 4) (take at found ++ row)

-- before the first
pub lanes_first : (mask : ℕ) (c : Shared) (ram found : List ℕ) (at : ℕ) (voices : List Voice) (delays bytes : List ℕ) (acc : Sums) → at ≤ length found
    → RoundFit (round_of voices delays bytes acc []) → Lanes mask c ram found at (round_of voices delays bytes acc []) 0 found voices delays bytes acc
unfolding turns
lanes_first mask c ram found at voices delays bytes acc h f =
    let n : at ≡ at + 0 * 4 = omega arith in
    record {
      row = [];
      fit = f;
      is = refl;
      lanes = subst (λ (k : ℕ). Written found found k (take at found ++ [])) n (subst (Written found found at) (sym (append-nil (take at found))) (written_to at found h));
    }

slot_sized : (w : Bool) (c : Shared) (ram : List ℕ) (j : ℕ) (v : Voice) (d : ℕ) (a : Sums) (bytes slot : List ℕ) → length slot ≡ 4
    → length (turned w c ram j v d a bytes slot).slot ≡ 4
unfolding turned lane_bytes
slot_sized w c ram j v d a bytes slot e = chosen (λ (l : List ℕ). length l ≡ 4) w refl e

-- one lane more
pub lane_on : (mask : ℕ) (c : Shared) (ram found : List ℕ) (at : ℕ) (start : Round) (v : ℕ) (sheet : List ℕ) (voices : List Voice) (delays bytes : List ℕ) (acc : Sums) (a b : ℕ) (x : Landed)
    → Lanes mask c ram found at start v sheet voices delays bytes acc → v < 8 → a ≡ at + v * 4 → b ≡ a + 4 → length (mid_of a (b - a) sheet) ≡ 4
    → x ≡ turned (bit mask v) c ram v (get_or voices v no_voice) (get_or delays v 0) acc bytes (mid_of a (b - a) sheet)
    → Lanes mask c ram found at start (v + 1) (put_mid a (b - a) sheet x.slot) (set voices v x.voice) (set delays v x.delay) x.bytes x.sums
unfolding turns turn
lane_on mask c ram found at start v sheet voices delays bytes acc a b x l lt ea eb es ex =
    let r = round_of voices delays bytes acc l.row in
    let w : Written found sheet a (take at found ++ l.row) = subst (λ (n : ℕ). Written found sheet n (take at found ++ l.row)) (sym ea) l.lanes in
    let f = lane_found at a b v found sheet _ ea eb w in
    let q = ex ∙ (λ i. turned (bit mask v) c ram v (get_or voices v no_voice) (get_or delays v 0) acc bytes (f i)) in
    let e : landing v r x ≡ turn mask (drop at found) c ram v r = ap (landing v r) q in
    let s : length x.slot ≡ 4 = ap (λ (y : Landed). length y.slot) ex ∙ slot_sized _ c ram v _ _ acc bytes _ es in
    let n : b ≡ at + (v + 1) * 4 = omega arith in
    let p : Written found (put_mid a (b - a) sheet x.slot) b ((take at found ++ l.row) ++ x.slot) = part_written w b x.slot (omega arith) (s ∙ omega arith) in
    record {
      row = l.row ++ x.slot;
      fit = subst RoundFit (sym e) (fit-kept-turn mask (drop at found) c ram v r lt l.fit);
      is = rw add-one (e ∙ ap (turn mask (drop at found) c ram v) l.is);
      lanes =
          subst (λ (m : ℕ). Written found (put_mid a (b - a) sheet x.slot) m (take at found ++ (l.row ++ x.slot))) n
          (subst (λ (d : List ℕ). Written found (put_mid a (b - a) sheet x.slot) b d) (append_assoc (take at found) l.row x.slot) p);
    }

-- one that is shown: nothing moves but the bytes and the sums
pub lane_shown : (mask : ℕ) (c : Shared) (ram found : List ℕ) (at : ℕ) (start : Round) (v : ℕ) (sheet : List ℕ) (voices : List Voice) (delays bytes : List ℕ) (acc : Sums) (a b : ℕ) (bytes' : List ℕ) (acc' : Sums)
    → Lanes mask c ram found at start v sheet voices delays bytes acc → v < 8 → a ≡ at + v * 4 → b ≡ a + 4 → length (mid_of a (b - a) sheet) ≡ 4 → bit mask v ≡ false
    → (let slot = mid_of a (b - a) sheet in
    let out = joined (get_or slot 0 0) (get_or slot 1 0) in
    bytes' ≡ put_bytes v (get_or slot 2 0) out (get_or slot 3 0 % 2 =? 1) bytes
    → acc' ≡ added (bit c.eon v) out (get_or voices v no_voice).left_vol (get_or voices v no_voice).right_vol acc
    → Lanes mask c ram found at start (v + 1) sheet voices delays bytes' acc')
unfolding turned shown_cell
lane_shown mask c ram found at start v sheet voices delays bytes acc a b bytes' acc' l lt ea eb es off ey em =
    let slot = mid_of a (b - a) sheet in
    let w = get_or voices v no_voice in
    let x : Landed = record { voice = w; delay = get_or delays v 0; sums = acc'; bytes = bytes'; slot = slot } in
    let e : x ≡ turned (bit mask v) c ram v w (get_or delays v 0) acc bytes slot = rw off (λ i. record { voice = w; delay = get_or delays v 0; sums = em i; bytes = ey i; slot = slot }) in
    let y = lane_on mask c ram found at start v sheet voices delays bytes acc a b x l lt ea eb es e in
    subst (λ (z : List ℕ). Lanes mask c ram found at start (v + 1) z voices delays bytes' acc') (put_same a (b - a) sheet)
    (subst (λ (z : List ℕ). Lanes mask c ram found at start (v + 1) (put_mid a (b - a) sheet slot) voices z bytes' acc') (set-get_or delays v 0)
    (subst (λ (z : List Voice). Lanes mask c ram found at start (v + 1) (put_mid a (b - a) sheet slot) z (set delays v (get_or delays v 0)) bytes' acc') (set-get_or voices v no_voice) y))

-- ---- the ticks

abbrev pub bench_at : Parts → List ℕ → List ℕ → List ℕ → List ℕ → Bench
bench_at parts ram samples rows old = record { parts = parts; ram = ram; pcm = samples; sheet = rows; old = old }

-- after i ticks
pub record Driven (w : Work) (foundPcm foundSheet : List ℕ) (start : Bench) (i : ℕ) (pcm sheet : List ℕ) (parts : Parts) (ram : List ℕ) : Type 0 where
  pub samples : List ℕ
  pub rows : List ℕ
  pub fit : BenchFit (bench_at parts ram samples rows (drop (i * 36) foundSheet))
  pub is : bench_at parts ram samples rows (drop (i * 36) foundSheet) ≡ ticks_of w i start
  pub put-out : Written foundPcm pcm (i * 4) samples
  pub shown : Written foundSheet sheet (i * 36) rows

echo_sized : (w : Bool) (g : Globals) (taps left right : List ℤ) (ram : List ℕ) (input : Stereo) (slot : List ℕ) → length slot ≡ 4
    → length (echo_lane w g taps left right ram input slot).slot ≡ 4
unfolding echo_lane pair_bytes
echo_sized w g taps left right ram input slot h = chosen (λ (e : EchoLane). length e.slot ≡ 4) w refl h

-- one tick more: the row's lanes, then the echo's at a, and the sample at o
pub tick_on : (w : Work) (foundPcm foundSheet : List ℕ) (start : Bench) (i : ℕ) (pcm sheet : List ℕ) (parts : Parts) (ram : List ℕ) (h : Globals) (c : Shared)
    (lanes : List ℕ) (voices : List Voice) (delays bytes : List ℕ) (acc : Sums) (a b o u : ℕ) (x : EchoLane) (pair : List ℕ)
    → Driven w foundPcm foundSheet start i pcm sheet parts ram
    → h ≡ globals_tick parts.globals → c ≡ heard w.echo (shared_of parts.globals parts.registers)
    → Lanes w.voices c ram sheet (i * 36) (start_of parts) 8 lanes voices delays bytes acc
    → a ≡ i * 36 + 32 → b ≡ a + 4 → length (mid_of a (b - a) lanes) ≡ 4
    → x ≡ echo_lane w.echo h parts.taps parts.left parts.right ram acc.input (mid_of a (b - a) lanes)
    → o ≡ i * 4 → u ≡ o + 4 → pair ≡ frame_of (master_of x.echo.globals acc.dry)
    → Driven w foundPcm foundSheet start (i + 1) (put_mid o (u - o) pcm pair) (put_mid a (b - a) lanes x.slot) (parts_after parts.taps (round_of voices delays bytes acc []) x.echo) x.echo.ram
unfolding ticks_of pair_bytes
tick_on w fp fs start i pcm sheet parts ram h c lanes voices delays bytes acc a b o u x pair d eh ec l ea eb es ex eo eu ep =
    let old = drop (i * 36) fs in
    let b₀ = bench_at parts ram d.samples d.rows old in
    let r = round_of voices delays bytes acc l.row in
    let same : drop (i * 36) sheet ≡ old = rest_is d.shown in
    let er = l.is ∙ (λ k. turns (turn w.voices (same k) c ram) 8 (start_of parts)) in
    let v : Written sheet lanes a (take (i * 36) sheet ++ l.row) = subst (λ (n : ℕ). Written sheet lanes n (take (i * 36) sheet ++ l.row)) (sym ea) l.lanes in
    let f = lane_found (i * 36) a b 8 sheet lanes _ ea eb v ∙ (λ k. lane_at 8 (same k)) in
    let ee = ex ∙ (λ k. echo_lane w.echo h parts.taps parts.left parts.right ram acc.input (f k)) in
    let g = glued w b₀ h c r x eh ec er ee in
    let s : length x.slot ≡ 4 = ap (λ (y : EchoLane). length y.slot) ex ∙ echo_sized _ h parts.taps parts.left parts.right ram acc.input _ es in
    let n : (i + 1) * 36 ≡ i * 36 + 36 = omega arith in
    let m : b ≡ (i + 1) * 36 = omega arith in
    let t : u ≡ (i + 1) * 4 = omega arith in
    let e₀ : drop ((i + 1) * 36) fs ≡ drop 36 old = ap (λ (k : ℕ). drop k fs) n ∙ sym (drop-drop 36 (i * 36) fs) in
    let rows = d.rows ++ (l.row ++ x.slot) in
    let e₁ : bench_at (parts_after parts.taps r x.echo) x.echo.ram (d.samples ++ pair) rows (drop ((i + 1) * 36) fs) ≡ onward b₀ (mixed parts.taps r x) =
    (λ k. bench_at (parts_after parts.taps r x.echo) x.echo.ram (d.samples ++ ep k) rows (e₀ k)) in
    let e₂ = e₁ ∙ g in
    let p₁ = part_written v b x.slot (omega arith) (s ∙ omega arith) in
    let p₂ = subst (λ (z : List ℕ). Written sheet (put_mid a (b - a) lanes x.slot) b z) (append_assoc (take (i * 36) sheet) l.row x.slot) p₁ in
    let y : length pair ≡ 4 = ap (λ (z : List ℕ). length z) ep in
    let q₁ = subst (λ (k : ℕ). Written fp pcm k d.samples) (sym eo) d.put-out in
    record {
      samples = d.samples ++ pair;
      rows = rows;
      fit = subst BenchFit (sym e₂) (fit-kept-bench w b₀ d.fit);
      is = e₂ ∙ ap (bench_tick w) d.is ∙ ap (λ (k : ℕ). ticks_of w k start) (sym (add-one i));
      put-out = subst (λ (k : ℕ). Written fp (put_mid o (u - o) pcm pair) k (d.samples ++ pair)) t (part_written q₁ u pair (omega arith) (y ∙ omega arith));
      shown = subst (λ (k : ℕ). Written fs (put_mid a (b - a) lanes x.slot) k rows) m (written_on d.shown b (l.row ++ x.slot) (omega arith) p₂);
    }
