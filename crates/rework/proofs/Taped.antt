-- A play of records puts out the tape of its beats, behind what was put out before.
use mathlib.Core.List.{List, [], ◌∷◌, ◌++◌, flatten, append_assoc, append-nil}
use mathlib.Core.Path.{◌≡◌, refl, sym, ◌∙◌}
use Prim.Native.Nat.{ℕ, zero, suc}
use Rattle.dsp.specs.Tick.{Ticked, tick_of}
use Rattle.dsp.specs.Ticks.{Bench, onward, bench_tick, bench_write, ticks_of}
use Rattle.dsp.specs.declared.tick.Work.{Work}
use Rattle.chip_log.specs.declared.Record.{Record}
use Rattle.chip_log.specs.declared.Record.TheVariants.{Write, Ticks, Reading}
use Rattle.dsp.specs.Play.{Run, register_in, play, play_all}
use Rattle.rework.proofs.Tape.{Beat, tick, ticks_then, beats, Tape, behind_tick, behind_reading, tape}

-- x: a run that played the beats of t, from a bench and readings so far
pub record Plays (t : Tape) (b : Bench) (q : List ℕ) (x : Run) : Type 0 where
  pub parts : x.bench.parts ≡ t.parts
  pub ram : x.bench.ram ≡ t.ram
  pub pcm : x.bench.pcm ≡ b.pcm ++ flatten t.frames
  pub sheet : x.bench.sheet ≡ b.sheet ++ flatten t.rows
  pub readings : x.readings ≡ q ++ t.readings

-- ---- one beat before the rest

plays_tick : (t : Ticked) (y : Tape) (b : Bench) (q : List ℕ) (x : Run) → Plays y (onward b t) q x → Plays (behind_tick t y) b q x
unfolding flatten
plays_tick t y b q x h =
    record {
      parts = h.parts;
      ram = h.ram;
      pcm = h.pcm ∙ append_assoc b.pcm t.frame (flatten y.frames);
      sheet = h.sheet ∙ append_assoc b.sheet t.row (flatten y.rows);
      readings = h.readings;
    }

plays_reading : (v : ℕ) (y : Tape) (b : Bench) (q : List ℕ) (x : Run) → Plays y b (q ++ (v ∷ [])) x → Plays (behind_reading v y) b q x
plays_reading v y b q x h =
    record { parts = h.parts; ram = h.ram; pcm = h.pcm; sheet = h.sheet; readings = h.readings ∙ append_assoc q (v ∷ []) y.readings }

-- ---- n ticks before the rest

-- the last of them as the first
ticks_last : (n : ℕ) (bs : List Beat) → ticks_then n (tick ∷ bs) ≡ tick ∷ ticks_then n bs
unfolding ticks_then
ticks_last zero bs = refl
ticks_last (suc n) bs = rw (ticks_last n bs)

-- the tape from where a bench stands
abbrev tape_at : Work → List Beat → Bench → Tape
tape_at w bs b = tape w bs b.old b.parts b.ram

plays_ticks : (w : Work) (n : ℕ) (bs : List Beat) (b : Bench) (q : List ℕ) (x : Run) → Plays (tape_at w bs (ticks_of w n b)) (ticks_of w n b) q x → Plays (tape_at w (ticks_then n bs) b) b q x
unfolding ticks_then ticks_of bench_tick tape
plays_ticks w zero bs b q x h = h
plays_ticks w (suc n) bs b q x h =
    let c = ticks_of w n b in
    let t = tick_of w c.old c.parts c.ram in
    rw (ticks_last n bs) at (plays_ticks w n (tick ∷ bs) b q x (plays_tick t (tape_at w bs (onward c t)) c q x h))

-- ---- a log

pub taped : (w : Work) (rs : List Record) (b : Bench) (q : List ℕ)
    → Plays (tape w (beats rs) b.old b.parts b.ram) b q (play_all w rs (record { bench = b; readings = q }))
unfolding beats tape play_all play flatten
taped w [] b q = record { parts = refl; ram = refl; pcm = sym (append-nil b.pcm); sheet = sym (append-nil b.sheet); readings = sym (append-nil q) }
taped w (Write i v ∷ rs) b q =
    let h = taped w rs (bench_write i v b) q in
    record { parts = h.parts; ram = h.ram; pcm = h.pcm; sheet = h.sheet; readings = h.readings }
taped w (Ticks n ∷ rs) b q = plays_ticks w n (beats rs) b q _ (taped w rs (ticks_of w n b) q)
taped w (Reading r ∷ rs) b q = plays_reading (register_in b r) (tape_at w (beats rs) b) b q _ (taped w rs b (q ++ (register_in b r ∷ [])))
