-- Ticks in one go and ticks behind others: a batch sees only its own rows of the sheet that was found. And what the entries for a
-- run do where they refuse nothing.
use mathlib.Core.List.{List, ◌++◌, append_assoc}
use mathlib.Core.Path.{◌≡◌, refl}
use Prim.Native.Nat.{ℕ, zero, suc, ◌+◌, ◌-◌, ◌*◌, ◌%◌, ◌≤◌, ◌<◌}
use native.Mathlib.Omega.{arith}
use lib.ListN.{drop, length, length-drop}
use lib.Seq.{take-append-le, drop-append-le}
use borrow.Author.Tests.{eq-eqb}
use Rattle.dsp.specs.Machine.{Parts}
use Rattle.dsp.specs.Fit.{Fit}
use Rattle.dsp.specs.Registers.{write_at, write_of}
use Rattle.dsp.specs.Sheet.{lane_at}
use Rattle.dsp.specs.Tick.{turn, voices_tick, shared_of, start_of, tick_of}
use Rattle.dsp.specs.Ticks.{Bench, bench_of, bench_tick, ticks_of, drove, drive_of}
use Rattle.dsp.specs.declared.registers.Dsp.{Dsp}
use Rattle.dsp.specs.declared.tick.Work.{Work}
use Rattle.numbers.proofs.Turns.{turns_same}
use Rattle.dsp.proofs.Fits.{facts_fit}

-- ---- a row of the sheet

pub lane_part : (j : ℕ) (old rest : List ℕ) → j * 4 + 4 ≤ length old → lane_at j (old ++ rest) ≡ lane_at j old
lane_part j old rest h =
    let d = length-drop (j * 4) old in
    rw (drop-append-le (j * 4) old rest (omega arith)) (take-append-le 4 (drop (j * 4) old) rest (omega arith))

-- a tick sees 36 bytes of it
tick_part : (w : Work) (old rest : List ℕ) (p : Parts) (ram : List ℕ) → 36 ≤ length old → tick_of w (old ++ rest) p ram ≡ tick_of w old p ram
unfolding tick_of voices_tick turn
tick_part w old rest p ram h =
    let c = shared_of p.globals p.registers in
    let r = turns_same (turn w.voices (old ++ rest) c ram) (turn w.voices old c ram) 8 (λ j s l. rw (lane_part j old rest (omega arith))) 8 (start_of p) (omega arith) in
    rw (r, lane_part 8 old rest (omega arith))

-- ---- a batch

old-left : (w : Work) (n : ℕ) (b : Bench) → length (ticks_of w n b).old ≡ length b.old - n * 36
unfolding ticks_of bench_tick
old-left w zero b = omega arith
old-left w (suc n) b = simp length-drop (omega (arith, old-left w n b))

-- a bench that has put out samples and rows before, and finds more behind
abbrev pub behind : List ℕ → List ℕ → List ℕ → Bench → Bench
behind pcm sheet rest b = record { parts = b.parts; ram = b.ram; pcm = pcm ++ b.pcm; sheet = sheet ++ b.sheet; old = b.old ++ rest }

pub ticks-behind : (w : Work) (n : ℕ) (b : Bench) (pcm sheet rest : List ℕ) → n * 36 ≤ length b.old → ticks_of w n (behind pcm sheet rest b) ≡ behind pcm sheet rest (ticks_of w n b)
unfolding ticks_of bench_tick
ticks-behind w zero b pcm sheet rest h = refl
ticks-behind w (suc n) b pcm sheet rest h =
    let f = ticks_of w n b in
    let o = old-left w n b in
    let s : 36 ≤ length f.old = omega arith in
    rw (ticks-behind w n b pcm sheet rest (omega arith), tick_part w f.old rest f.parts f.ram s, append_assoc pcm, append_assoc sheet, drop-append-le 36 f.old rest s)

-- ---- the entries

pub driven : (w : Work) (n : ℕ) (d : Dsp) (ram pcm sheet : List ℕ) → length ram ≡ 0x10000 → Fit d → length pcm ≡ n * 4 → length sheet ≡ n * 36
    → drive_of w n d ram pcm sheet ≡ drove (ticks_of w n (bench_of d ram sheet))
unfolding drive_of
driven w n d ram pcm sheet lr f lp ls = rw (eq-eqb _ _ lr, facts_fit d f, eq-eqb _ _ lp, eq-eqb _ _ ls)

pub written : (i x : ℕ) (d : Dsp) → i < 128 → Fit d → write_of i x d ≡ record { refusal = 0; dsp = write_at i x d }
unfolding write_of
written i x d l f =
    let m : i % 128 ≡ i = omega arith in
    rw (facts_fit d f, m)
