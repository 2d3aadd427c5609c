-- A log over the parts: where its loop stands, what each record does to the arrays, and that what is left of the log from there gives the
-- whole run.
use Rattle.std.proofs.Common.{Option, Some, Result, Ok, if◌then◌else◌}
use mathlib.Core.Bool.{Bool, true, false, ◌&&◌}
use mathlib.Core.List.{List, [], ◌++◌, map, append-nil}
use mathlib.Core.Path.{◌≡◌, refl, sym, ap, subst, ◌∙◌}
use Prim.Native.Nat.{ℕ, ◌+◌, ◌-◌, ◌*◌, ◌/◌, ◌%◌, ◌≤◌, ◌<◌}
use native.Mathlib.Omega.{arith}
use native.Mathlib.Decide.{ℕ_discrete, dec_lt}
use lib.IntN.{ℤ, pos}
use lib.ListN.{get_or, set, length, length-set, length-map, take, drop, take-append-drop, drop_of_length-le}
use lib.Seq.{take_all, ext_get_or, get_or-set_same, get_or-set_other, set-get_or}
use borrow.Author.Tests.{ne_eqb, lt-ltb, le-ltb}
use borrow.Rule.Slice.PartMut.{put_mid, mid_of, mid_len, Post-is, same_len_mid}
use Rattle.numbers.specs.Choice.{◌=?◌}
use Rattle.numbers.specs.Bits.{bit}
use Rattle.numbers.proofs.Parts.{one_more, written_to, done_is, rest_is, part_written}
use Rattle.refusal.specs.declared.Refusal.{Refusal}
use Rattle.chip_log.specs.Log.{Next, On, Off, next_of, Known, Moves, read_at, decode_from, decode}
use Rattle.chip_log.specs.Measure.{ticks_in, readings_in}
use Rattle.chip_log.specs.declared.Record.{Record}
use Rattle.chip_log.specs.declared.Record.TheVariants.{Write, Ticks, Reading}
use Rattle.chip_log.proofs.Turn.{Here, Turned, turned, ended, most}
use Rattle.dsp.specs.Machine.{no_voice, Parts}
use Rattle.dsp.specs.Keys.{silenced}
use Rattle.dsp.specs.Registers.{write_voice, resets, globals_after, bytes_after, voices_after, taps_after, write_parts}
use Rattle.dsp.specs.Ticks.{Bench, ticks_of}
use Rattle.dsp.specs.Play.{Run, play, play_all}
use Rattle.dsp.specs.Inside.{Wound, as_voice, as_globals, cut_envelope, hushed_play, no_dial, no_envelope, no_play, no_feed, samples_at, Ready}
use Rattle.dsp.specs.declared.adsr.Envelope.{Envelope}
use Rattle.dsp.specs.declared.lane.Dial.{Dial}
use Rattle.dsp.specs.declared.play.Feed.{Feed}
use Rattle.dsp.specs.declared.play.Play.{Play}
use Rattle.dsp.specs.declared.tick.Far.{Far}
use Rattle.dsp.specs.declared.tick.Work.{Work}
use Rattle.dsp.specs.declared.voice.Voice.{Voice}
use Rattle.dsp.proofs.Apart.{Arrays, arrays, Sized, voice_at, voices_from, voices-count, voice-at, parts_from}
use Rattle.dsp.proofs.Made.{mapped_at}
use Rattle.dsp.proofs.Ticks.{BenchFit, fit-kept-ticks, fit-kept-bench-write}
use Rattle.dsp.proofs.Batches.{behind, ticks-behind}

-- ---- where the loop stands: the first t samples and rows and the first q readings are its own, and the sheet behind them is as it was found

abbrev pub bench_now : Parts → List ℕ → List ℕ → List ℕ → ℕ → Bench
bench_now p ram pcm sheet t = record { parts = p; ram = ram; pcm = take (t * 4) pcm; sheet = take (t * 36) sheet; old = drop (t * 36) sheet }

abbrev pub standing : Parts → List ℕ → List ℕ → List ℕ → List ℕ → ℕ → ℕ → Run
standing p ram pcm sheet readings t q = record { bench = bench_now p ram pcm sheet t; readings = take q readings }

-- what is left of the run from `at` on is the whole run from x₀
pub record Playing (w : Work) (log : List ℕ) (x₀ x : Run) (at t q : ℕ) : Type 0 where
  pub here : Here log at t q
  pub rest : play_all w (decode_from here.f log at).records x ≡ play_all w (decode log).records x₀

pub started : (w : Work) (log : List ℕ) (x : Run) → Playing w log x x 0 0 0
unfolding decode
started w log x =
    record {
      here = record { within = omega arith; few = omega arith; less = omega arith; f = length log + 1; room = omega arith; rest = refl };
      rest = refl;
    }

-- behind a record that has been played
pub played_on : {w : Work} {log : List ℕ} {x₀ x y : Run} {at t q t' q' behind : ℕ} {r : Record} (p : Playing w log x₀ x at t q) → Turned log at t q p.here.f r behind
    → y ≡ play w r x → t' ≡ t + ticks_in r → q' ≡ q + readings_in r → Playing w log x₀ y behind t' q'
unfolding play_all
played_on p u is ticks readings = rw (ticks, readings) (record { here = u.here; rest = cc })

module _ {log pcm₀ sheet₀ readings₀ : List ℕ} (pcm sheet readings : List ℕ) (R : Ready log pcm₀ sheet₀ readings₀)
    (lp : length pcm ≡ length pcm₀) (ls : length sheet ≡ length sheet₀) (lq : length readings ≡ length readings₀) {at t q : ℕ} where
  -- what a record needs, and the slices have
  pub room : {f behind : ℕ} {r : Record} → Turned log at t q f r behind
      → Known r × (t + ticks_in r ≤ 32000) × ((t + ticks_in r) * 4 ≤ length pcm) × ((t + ticks_in r) * 36 ≤ length sheet) × (q + readings_in r ≤ length readings)
  room {behind = behind} u =
      let d = decode_from u.here.f log behind in
      let m = most d.records d.stop _ _ R.ticks R.count (u.here.rest ∙ R.all) in
      (u.known, omega arith, omega arith, omega arith, omega arith)

  -- where the log ends, what has been put out is all of each slice
  pub finished : {w : Work} {x₀ : Run} (p : Parts) (ram : List ℕ) {n : Next} {k : ℕ} → Playing w log x₀ (standing p ram pcm sheet readings t q) at t q → n ≡ read_at log at → n ≡ Off k
      → ◌≡◌ {A = Run} (record { bench = record { parts = p; ram = ram; pcm = pcm; sheet = sheet; old = [] }; readings = readings }) (play_all w (decode log).records x₀)
  unfolding play_all
  finished d ram p is e =
      let o = ended p.here is R.all e in
      let a₁ = take_all (t * 4) pcm (omega arith) in
      let a₂ = take_all (t * 36) sheet (omega arith) in
      let a₃ = drop_of_length-le sheet {i = t * 36} (omega arith) in
      let a₄ = take_all q readings (omega arith) in
      cc

-- ---- ticks: they go in one call, over the parts of the slices that are their own

-- the slice from p on: the part, then the rest
parted : (p e : ℕ) (xs : List ℕ) → p ≤ e → mid_of p (e - p) xs ++ drop e xs ≡ drop p xs
parted p e xs h = rw (← Post-is p e xs h) (take-append-drop (e - p) (drop p xs))

pub batch : (w : Work) (n : ℕ) (p p' : Parts) (ram ram' pcm sheet : List ℕ) (t : ℕ) (newPcm newSheet : List ℕ) → t * 4 + n * 4 ≤ length pcm → t * 36 + n * 36 ≤ length sheet
    → length newPcm ≡ length (mid_of (t * 4) (t * 4 + n * 4 - t * 4) pcm) → length newSheet ≡ length (mid_of (t * 36) (t * 36 + n * 36 - t * 36) sheet)
    → ◌≡◌ {A = Bench} (record { parts = p'; ram = ram'; pcm = newPcm; sheet = newSheet; old = [] }) (ticks_of w n (record { parts = p; ram = ram; pcm = []; sheet = []; old = mid_of (t * 36) (t * 36 + n * 36 - t * 36) sheet }))
    → bench_now p' ram' (put_mid (t * 4) (t * 4 + n * 4 - t * 4) pcm newPcm) (put_mid (t * 36) (t * 36 + n * 36 - t * 36) sheet newSheet) (t + n) ≡ ticks_of w n (bench_now p ram pcm sheet t)
batch w n p p' ram ram' pcm sheet t newPcm newSheet hp hs xp xs ex =
    let a = t * 4 in
    let b = t * 4 + n * 4 in
    let r = t * 36 in
    let e = t * 36 + n * 36 in
    let old = mid_of r (e - r) sheet in
    let mp = mid_len a b pcm hp in
    let ms = mid_len r e sheet hs in
    let lo : length old ≡ n * 36 = ms ∙ omega arith in
    let wp = part_written (written_to a pcm (omega (arith, hp))) b newPcm (omega arith) (xp ∙ mp) in
    let ws = part_written (written_to r sheet (omega (arith, hs))) e newSheet (omega arith) (xs ∙ ms) in
    let eb : (t + n) * 4 ≡ b = omega arith in
    let ee : (t + n) * 36 ≡ e = omega arith in
    let start : Bench = record { parts = p; ram = ram; pcm = []; sheet = []; old = old } in
    rw (eb, ee, done_is wp, done_is ws, rest_is ws)
    (ap (behind (take a pcm) (take r sheet) (drop e sheet)) ex
    ∙ sym (ticks-behind w n start (take a pcm) (take r sheet) (drop e sheet) (omega (arith, lo)))
    ∙ (λ i. ticks_of w n (record { parts = p; ram = ram; pcm = append-nil (take a pcm) i; sheet = append-nil (take r sheet) i; old = parted r e sheet (omega arith) i })))

-- ---- a register write

-- registers $x8 to $xF are no voice's own
unwritten_voice : (i x : ℕ) (v : Voice) → 8 ≤ i → write_voice i x v ≡ v
unwritten_voice i x v h =
    rw (ne_eqb i 0 (λ (e : i ≡ 0). omega arith), ne_eqb i 1 (λ (e : i ≡ 1). omega arith), ne_eqb i 2 (λ (e : i ≡ 2). omega arith), ne_eqb i 3 (λ (e : i ≡ 3). omega arith), ne_eqb i 4 (λ (e : i ≡ 4). omega arith), ne_eqb i 5 (λ (e : i ≡ 5). omega arith), ne_eqb i 6 (λ (e : i ≡ 6). omega arith), ne_eqb i 7 (λ (e : i ≡ 7). omega arith))

-- the arrays of voices that are silenced
abbrev pub hushed_arrays : Arrays → Arrays
hushed_arrays a = arrays (map cut_envelope a.envelopes) (map hushed_play a.plays) a.feeds a.currents a.store

hushed_voices : (dials : List Dial) (a : Arrays) → Sized a → voices_from dials (hushed_arrays a) ≡ map silenced (voices_from dials a)
hushed_voices dials a h =
    let b = hushed_arrays a in
    let n = voices-count dials b in
    let m = voices-count dials a in
    ext_get_or no_voice (voices_from dials b) (map silenced (voices_from dials a)) (n ∙ sym (simp length-map m))
    (λ (k : ℕ) (l : k < length (voices_from dials b)).
    voice-at dials b k (omega arith)
    ∙ (λ i. as_voice (get_or dials k no_dial) (mapped_at cut_envelope a.envelopes no_envelope no_envelope k (omega (arith, h.envelopes)) i) (mapped_at hushed_play a.plays no_play no_play k (omega (arith, h.plays)) i) (get_or a.feeds k no_feed) (get_or a.currents k (pos 0)) (samples_at k a.store))
    ∙ sym (mapped_at silenced (voices_from dials a) no_voice no_voice k (omega arith) ∙ ap silenced (voice-at dials a k (omega arith))))

module _ (dials : List Dial) (a : Arrays) (i x : ℕ) (e : Dial) (lt : i / 16 < 8) (ld : length dials ≡ 8)
    (is : (env : Envelope) (p : Play) (f : Feed) (y : ℤ) (s : List ℤ) → as_voice e env p f y s ≡ write_voice (i % 16) x (as_voice (get_or dials (i / 16) no_dial) env p f y s)) where
  abbrev j : ℕ
  j = i / 16

  -- a dial that is written writes its voice
  dial_voices : voices_from (set dials j e) a ≡ set (voices_from dials a) j (write_voice (i % 16) x (get_or (voices_from dials a) j no_voice))
  dial_voices =
      let new = set dials j e in
      let w = write_voice (i % 16) x (get_or (voices_from dials a) j no_voice) in
      let n = voices-count new a in
      let m = voices-count dials a in
      ext_get_or no_voice (voices_from new a) (set (voices_from dials a) j w) (n ∙ sym (length-set (voices_from dials a) j w ∙ m))
      (λ (k : ℕ) (l : k < length (voices_from new a)).
      voice-at new a k (omega arith)
      ∙ elim (ℕ_discrete k j) [
        | yes q ↦
            ap (voice_at new a) q
            ∙ (λ z. as_voice (get_or-set_same dials j e no_dial (omega (arith, ld)) z) (get_or a.envelopes j no_envelope) (get_or a.plays j no_play) (get_or a.feeds j no_feed) (get_or a.currents j (pos 0)) (samples_at j a.store))
            ∙ is _ _ _ _ _ ∙ ap (write_voice (i % 16) x) (sym (voice-at dials a j lt))
            ∙ sym (get_or-set_same (voices_from dials a) j w no_voice (omega (arith, m, lt))) ∙ ap (λ (z : ℕ). get_or (set (voices_from dials a) j w) z no_voice) (sym q)
        | no q ↦
            (λ z. as_voice (get_or-set_other dials j k e no_dial q z) (get_or a.envelopes k no_envelope) (get_or a.plays k no_play) (get_or a.feeds k no_feed) (get_or a.currents k (pos 0)) (samples_at k a.store))
            ∙ sym (get_or-set_other (voices_from dials a) j k w no_voice q ∙ voice-at dials a k (omega arith))
      ])

  -- no voice's own register
  dial_none : 8 ≤ i % 16 → voices_from (set dials j e) a ≡ voices_from dials a
  dial_none h = dial_voices ∙ ap (set (voices_from dials a) j) (unwritten_voice (i % 16) x _ h) ∙ set-get_or (voices_from dials a) j no_voice

-- b: the arrays with every voice silenced where the write is a RESET, else as they were
pub written_parts : (dials : List Dial) (taps taps' : List ℤ) (a b : Arrays) (delays bytes bytes' : List ℕ) (f f' : Far) (i x : ℕ) (e : Dial) → i < 128 → length dials ≡ 8 → Sized a
    → ((env : Envelope) (p : Play) (d : Feed) (y : ℤ) (s : List ℤ) → as_voice e env p d y s ≡ write_voice (i % 16) x (as_voice (get_or dials (i / 16) no_dial) env p d y s))
    → bytes' ≡ bytes_after i x bytes → taps' ≡ taps_after i x taps
    → (as_globals f'.glob ≡ globals_after i x (as_globals f.glob)) × (f'.left ≡ f.left) × (f'.right ≡ f.right)
    → b ≡ (if resets i x then hushed_arrays a else a)
    → parts_from (set dials (i / 16) e) taps' b delays bytes' f' ≡ write_parts i x (parts_from dials taps a delays bytes f)
unfolding write_parts
written_parts dials taps taps' a b delays bytes bytes' f f' i x e li ld h is eb et ef ea =
    let lt : i / 16 < 8 = omega arith in
    let ev : voices_from (set dials (i / 16) e) b ≡ voices_after i x (voices_from dials a) =
    elim (dec_lt (i % 16) 8) [
      | yes y ↦
          let n : (i =? 0x6C) ≡ false = ne_eqb i 0x6C (λ (z : i ≡ 0x6C). omega arith) in
          let r : resets i x ≡ false = ap (λ (t : Bool). t && bit x 7) n in
          rw (lt-ltb (i % 16) 8 y) (ap (voices_from (set dials (i / 16) e)) (ea ∙ ap (λ (t : Bool). if t then hushed_arrays a else a) r) ∙ dial_voices dials a i x e lt ld is)
      | no y ↦
          rw (le-ltb (i % 16) 8 (omega arith))
          (ap (voices_from (set dials (i / 16) e)) ea ∙ dial_none dials (if resets i x then hushed_arrays a else a) i x e lt ld is (omega arith) ∙ either (resets i x))
    ] in
    (λ k. record { registers = eb k; voices = ev k; delays = delays; taps = et k; left = ef.1 k; right = ef.2 k; globals = ef.0 k })
  where
    either : (t : Bool) → voices_from dials (if t then hushed_arrays a else a) ≡ (if t then map silenced (voices_from dials a) else voices_from dials a)
    either true = hushed_voices dials a h
    either false = refl

-- ---- the loop: what holds between two records

pub record Between (w : Work) (log pcm₀ sheet₀ readings₀ : List ℕ) (x₀ : Run) (dials : List Dial) (taps : List ℤ) (a : Arrays) (delays bytes : List ℕ) (f : Far) (ram pcm sheet readings : List ℕ) (t q at : ℕ) : Type 0 where
  pub sized : Sized a
  pub count : length dials ≡ 8
  pub eight : length taps ≡ 8
  pub wound : (k : ℕ) → k < 8 → Wound (get_or dials k no_dial).settings
  pub fit : BenchFit (bench_now (parts_from dials taps a delays bytes f) ram pcm sheet t)
  pub pcm-is : length pcm ≡ length pcm₀
  pub sheet-is : length sheet ≡ length sheet₀
  pub readings-is : length readings ≡ length readings₀
  pub playing : Playing w log x₀ (standing (parts_from dials taps a delays bytes f) ram pcm sheet readings t q) at t q

-- ---- a record moves it on

-- a record that was read: it moves the place on, and what is lent has room for it
pub record Found (log pcm sheet readings : List ℕ) (at t q f : ℕ) (r : Record) (behind : ℕ) : Type 0 where
  pub turned : Turned log at t q f r behind
  pub known : Known r
  pub few : t + ticks_in r ≤ 32000
  pub samples : t * 4 + ticks_in r * 4 ≤ length pcm
  pub rows : t * 36 + ticks_in r * 36 ≤ length sheet
  pub said : q + readings_in r ≤ length readings

module _ {w : Work} {log pcm₀ sheet₀ readings₀ : List ℕ} {x₀ : Run} {dials : List Dial} {taps : List ℤ} {a : Arrays} {delays bytes : List ℕ} {f : Far} {ram pcm sheet readings : List ℕ} {t q at : ℕ}
    (s : Between w log pcm₀ sheet₀ readings₀ x₀ dials taps a delays bytes f ram pcm sheet readings t q at) {behind : ℕ} where
  pub found : {r x : Record} {a : Result (Option (Record × ℕ)) Refusal} {o : Option (Record × ℕ)} → Ready log pcm₀ sheet₀ readings₀
      → (next_of a ≡ read_at log at) × Moves at (length log) (next_of a) → a ≡ Ok o → o ≡ Some (x, behind) → x ≡ r → Found log pcm sheet readings at t q s.playing.here.f r behind
  found {r} {x} {a} R e is some k =
      let n : next_of a ≡ On r behind = ap next_of (is ∙ ap (λ (y : Option (Record × ℕ)). Ok y) some) ∙ ap (λ (y : Record). On y behind) k in
      let u = turned s.playing.here e.0 R.all n e.1 in
      let m = room pcm sheet readings R s.pcm-is s.sheet-is s.readings-is u in
      record { turned = u; known = m.0; few = m.1; samples = omega (arith, m.2); rows = omega (arith, m.3); said = m.4 }

  pub on_write : (i x : ℕ) (e : Dial) (taps' : List ℤ) (b : Arrays) (bytes' : List ℕ) (f' : Far) → Turned log at t q s.playing.here.f (Write i x) behind → i < 128 → x < 256 → Sized b
      → length taps' ≡ 8
      → ((env : Envelope) (p : Play) (d : Feed) (y : ℤ) (l : List ℤ) → as_voice e env p d y l ≡ write_voice (i % 16) x (as_voice (get_or dials (i / 16) no_dial) env p d y l)) × Wound e.settings
      → bytes' ≡ bytes_after i x bytes → taps' ≡ taps_after i x taps
      → (as_globals f'.glob ≡ globals_after i x (as_globals f.glob)) × (f'.left ≡ f.left) × (f'.right ≡ f.right)
      → b ≡ (if resets i x then hushed_arrays a else a)
      → Between w log pcm₀ sheet₀ readings₀ x₀ (set dials (i / 16) e) taps' b delays bytes' f' ram pcm sheet readings t q behind
  unfolding play
  on_write i x e taps' b bytes' f' u li lx hb lt ed eb et ef ea =
      let p = written_parts dials taps taps' a b delays bytes bytes' f f' i x e li s.count s.sized ed.0 eb et ef ea in
      let lj : i / 16 < 8 = omega arith in
      record {
        sized = hb;
        count = simp length-set s.count;
        eight = lt;
        wound =
            λ k l. elim (ℕ_discrete k (i / 16)) [
              | yes z ↦ subst (λ (d : Dial). Wound d.settings) (sym (ap (λ (m : ℕ). get_or (set dials (i / 16) e) m no_dial) z ∙ get_or-set_same dials (i / 16) e no_dial (omega (arith, s.count)))) ed.1
              | no z ↦ subst (λ (d : Dial). Wound d.settings) (sym (get_or-set_other dials (i / 16) k e no_dial z)) (s.wound k l)
            ];
        fit = subst (λ (y : Parts). BenchFit (bench_now y ram pcm sheet t)) (sym p) (fit-kept-bench-write i x (bench_now (parts_from dials taps a delays bytes f) ram pcm sheet t) li lx s.fit);
        pcm-is = s.pcm-is;
        sheet-is = s.sheet-is;
        readings-is = s.readings-is;
        playing = played_on s.playing u (λ k. standing (p k) ram pcm sheet readings t q) (omega arith) (omega arith);
      }

  pub on_ticks : (n : ℕ) (b : Arrays) (delays' bytes' : List ℕ) (f' : Far) (ram' newPcm newSheet : List ℕ) → Turned log at t q s.playing.here.f (Ticks n) behind → Sized b
      → t * 4 + n * 4 ≤ length pcm → t * 36 + n * 36 ≤ length sheet
      → length newPcm ≡ length (mid_of (t * 4) (t * 4 + n * 4 - t * 4) pcm) → length newSheet ≡ length (mid_of (t * 36) (t * 36 + n * 36 - t * 36) sheet)
      → ◌≡◌ {A = Bench} (record { parts = parts_from dials taps b delays' bytes' f'; ram = ram'; pcm = newPcm; sheet = newSheet; old = [] })
      (ticks_of w n (record { parts = parts_from dials taps a delays bytes f; ram = ram; pcm = []; sheet = []; old = mid_of (t * 36) (t * 36 + n * 36 - t * 36) sheet }))
      → Between w log pcm₀ sheet₀ readings₀ x₀ dials taps b delays' bytes' f' ram' (put_mid (t * 4) (t * 4 + n * 4 - t * 4) pcm newPcm) (put_mid (t * 36) (t * 36 + n * 36 - t * 36) sheet newSheet) readings (t + n) q behind
  unfolding play
  on_ticks n b delays' bytes' f' ram' newPcm newSheet u hb hp hs xp xs ex =
      let p = parts_from dials taps a delays bytes f in
      let p' = parts_from dials taps b delays' bytes' f' in
      let e = batch w n p p' ram ram' pcm sheet t newPcm newSheet hp hs xp xs ex in
      record {
        sized = hb;
        count = s.count;
        eight = s.eight;
        wound = s.wound;
        fit = subst BenchFit (sym e) (fit-kept-ticks w n (bench_now p ram pcm sheet t) s.fit);
        pcm-is = same_len_mid (t * 4) (t * 4 + n * 4 - t * 4) pcm newPcm xp ∙ s.pcm-is;
        sheet-is = same_len_mid (t * 36) (t * 36 + n * 36 - t * 36) sheet newSheet xs ∙ s.sheet-is;
        readings-is = s.readings-is;
        playing = played_on s.playing u (λ k. record { bench = e k; readings = take q readings }) refl (omega arith);
      }

  pub on_reading : (i : ℕ) → Turned log at t q s.playing.here.f (Reading i) behind → q < length readings
      → Between w log pcm₀ sheet₀ readings₀ x₀ dials taps a delays bytes f ram pcm sheet (set readings q (get_or bytes i 0)) t (q + 1) behind
  unfolding play
  on_reading i u l =
      let y = get_or bytes i 0 in
      record {
        sized = s.sized;
        count = s.count;
        eight = s.eight;
        wound = s.wound;
        fit = s.fit;
        pcm-is = s.pcm-is;
        sheet-is = s.sheet-is;
        readings-is = length-set readings q y ∙ s.readings-is;
        playing = played_on s.playing u (λ k. record { bench = bench_now (parts_from dials taps a delays bytes f) ram pcm sheet t; readings = one_more readings q y y refl l k }) (omega arith) refl;
      }
