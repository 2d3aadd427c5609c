-- "`new` is fit and every call keeps it so."
use Rattle.std.proofs.Common.{if◌then◌else◌}
use mathlib.Core.List.{List, []}
use mathlib.Core.Path.{◌≡◌}
use Prim.Native.Nat.{ℕ, zero, suc, ◌*◌, ◌%◌}
use native.Mathlib.Omega.{arith}
use native.Mathlib.Decide.{ℕ_discrete, dec_lt}
use lib.ListN.{get_or, length, get_or-eq_default}
use borrow.Author.Tests.{eqb-true}
use Rattle.numbers.specs.Choice.{◌<?◌, ◌=?◌}
use Rattle.numbers.proofs.Choice.{tested, chosen}
use Rattle.numbers.specs.Bits.{bit}
use Rattle.dsp.specs.Machine.{no_voice, apart, together}
use Rattle.dsp.specs.PowerOn.{new_dsp}
use Rattle.dsp.specs.Fit.{fit, FitVoice, delay_rule, Facts}
use Rattle.dsp.specs.Registers.{Written, write_of}
use Rattle.dsp.specs.Tick.{everything}
use Rattle.dsp.specs.Ticks.{Bench, bench_of, bench_tick, ticks_of, After, step_of, Drove, drive_of}
use Rattle.dsp.specs.declared.registers.Dsp.{Dsp}
use Rattle.dsp.specs.declared.tick.Work.{Work}
use Rattle.dsp.proofs.Fits.{fit_facts, facts_fit, new-fit, fit-kept-write, no_voice-fit}
use Rattle.chip_log.specs.Log.{read_at, Moves, decode}
use Rattle.chip_log.specs.declared.Record.TheVariants.{Write, Ticks, Reading}
use Rattle.chip_log.specs.Log.{Next}
use Rattle.chip_log.specs.Log.{On, Off}
use Rattle.chip_log.proofs.Places.{moves, ByteValue, byte_value}
use Rattle.dsp.specs.Run.{run_with, run_of}
use Rattle.sitting.specs.Parts.{Told, Parted, stop_at, record_at, next_at, ticks_now, sounding, log_refusal, part_of}
use Rattle.numbers.specs.Listed.{listed}
use Rattle.rework.specs.Rework.{picked, end_parts, set_of, only, Left, refusal_of, rework_of, rework_new_of}
use Rattle.rework.specs.Demands.{IsRecord, Bytes}
use Rattle.rework.specs.KeptFit.{IsFit, EveryCallKeepsFit}
use Rattle.dsp.proofs.Apart.{listed-count, listed_at}
use Rattle.rework.proofs.Tape.{beats}
use Rattle.rework.proofs.Taped.{taped}
use Rattle.rework.proofs.Beats.{small_beats}
use Rattle.rework.proofs.Taken.{unrefused, run_is}
use Rattle.rework.proofs.Keeps.{Whole, whole_tick, whole_tape, whole_start, whole_fit, new_value}
use Rattle.rework.proofs.Refused.{run_exactly}

-- ---- ticks

whole_ticks : (w : Work) (n : ℕ) (b : Bench) → Whole b.parts b.ram → Whole (ticks_of w n b).parts (ticks_of w n b).ram
unfolding ticks_of bench_tick
whole_ticks w zero b h = h
whole_ticks w (suc n) b h = let c = ticks_of w n b in whole_tick w c.old c.parts c.ram (whole_ticks w n b h)

-- so many ticks of a fit record
ticks_of_fit : (w : Work) (n : ℕ) (d : Dsp) (ram old : List ℕ) → IsRecord d → IsFit d → length ram ≡ 0x10000 → IsFit (together (ticks_of w n (bench_of d ram old)).parts)
ticks_of_fit w n d ram old v f l = whole_fit (whole_ticks w n (bench_of d ram old) (whole_start d ram v f l))

-- ---- a run, and a record of its log

run-fit : (w : Work) (d : Dsp) (ram log pcm sheet readings : List ℕ) → IsRecord d → Bytes log → IsFit d → IsFit (run_with w d ram log pcm sheet readings).dsp
run-fit w d ram log pcm sheet readings v b f =
    let o = run_with w d ram log pcm sheet readings in
    elim (ℕ_discrete o.refusal 0) [
      | yes z ↦
          let g = unrefused w d ram log pcm sheet readings z in
          let t = whole_tape w (beats (decode log).records) sheet (apart d) ram (small_beats log b) (whole_start d ram v f g.ram_whole) in
          let p = taped w (decode log).records (bench_of d ram sheet) [] in
          rw (run_is w d ram log pcm sheet readings g, p.parts) (whole_fit t)
      | no z ↦ rw ((run_exactly w d ram log pcm sheet readings).1 z) f
    ]

next_fit : (n : Next) (d : Dsp) (at size : ℕ) → Moves at size n → ByteValue n → IsFit d → IsFit (next_at n d at).dsp
unfolding next_at stop_at record_at
next_fit (Off k) d at size m b f = tested (λ (t : Told). IsFit t.dsp) (k =? 0) (λ _. f) (λ _. f)
next_fit (On (Write r x) behind) d at size m b f = facts_fit _ (fit-kept-write r x d m.2 b (fit_facts d f))
next_fit (On (Ticks n) behind) d at size m b f = f
next_fit (On (Reading r) behind) d at size m b f = f

-- ---- a rework

-- of two lists of eight, what both keep
picked_keeps : {A : Type 0} (P : A → Type 0) (x : A) (a : ℕ) (new old : List A) → P x → (j : ℕ) → P (get_or new j x) → P (get_or old j x) → P (get_or (picked x a new old) j x)
unfolding picked
picked_keeps P x a new old z j p q =
    let f : ℕ → _ = (λ i. if bit a i then get_or new i x else get_or old i x) in
    elim (dec_lt j 8) [
      | yes l ↦ rw (listed_at f x 8 j l) (chosen P (bit a j) p q)
      | no l ↦ rw (get_or-eq_default (listed f 8) x {n = j} (omega (arith, listed-count f 8))) z
    ]

end-fit : (a : ℕ) (new old : Dsp) → IsFit new → IsFit old → IsFit (together (end_parts a (apart new) (apart old)))
end-fit a new old f g =
    let p = fit_facts new f in
    let q = fit_facts old g in
    facts_fit _
    (record {
      globals = q.globals;
      voices = λ j. picked_keeps FitVoice no_voice a new.voices old.voices no_voice-fit j (p.voices j) (q.voices j);
      delays = λ j. picked_keeps (λ (n : ℕ). Facts (delay_rule n)) 0 a new.kon_delay old.kon_delay (omega arith, tt) j (p.delays j) (q.delays j);
    })

rework-fit : (s : ℕ) (start end : Dsp) (ram log₁ log₂ pcm sheet readings : List ℕ) → IsRecord start → Bytes log₂ → IsFit start → IsFit end
    → IsFit (rework_of s start end ram log₁ log₂ pcm sheet readings).dsp
unfolding rework_of
rework-fit s start end ram log₁ log₂ pcm sheet readings v b f g =
    let P : Left → Type 0 = (λ a. IsFit a.dsp) in
    let a = set_of s start log₂ in
    let o = run_with (only a) start ram log₂ pcm sheet readings in
    tested P (refusal_of s start end ram log₁ log₂ =? 0)
    (λ _. tested P (o.refusal =? 0) (λ _. end-fit a o.dsp end (run-fit (only a) start ram log₂ pcm sheet readings v b f) g) (λ _. f)) (λ _. f)

pub every_call_keeps_fit : EveryCallKeepsFit
unfolding write_of step_of drive_of part_of sounding rework_new_of
every_call_keeps_fit =
    record {
      new = new-fit;
      write = λ index x d l f.
          tested (λ (a : Written). IsFit a.dsp) (fit d) (λ _. facts_fit _ (fit-kept-write (index % 128) x d (omega arith) l (fit_facts d f))) (λ _. f);
      step = λ d ram v f.
          let P : After → Type 0 = (λ a. IsFit a.dsp) in
          tested P (length ram =? 0x10000)
          (λ e. tested P (fit d) (λ _. whole_fit (whole_tick everything [] (apart d) ram (whole_start d ram v f (eqb-true _ _ e)))) (λ _. f)) (λ _. f);
      ticks = λ w n d ram pcm sheet v f.
          let P : Drove → Type 0 = (λ a. IsFit a.dsp) in
          tested P (length ram =? 0x10000) (λ e. tested P (fit d) (λ _. tested P (length pcm =? n * 4)
          (λ _. tested P (length sheet =? n * 36) (λ _. ticks_of_fit w n d ram sheet v f (eqb-true _ _ e)) (λ _. f)) (λ _. f)) (λ _. f)) (λ _. f);
      run = run-fit;
      part = λ d at left ram log pcm v b f.
          let P : Parted → Type 0 = (λ a. IsFit a.told.dsp) in
          tested P (length ram =? 0x10000) (λ e. tested P (fit d) (λ _. tested P (log_refusal at log =? 0)
          (λ _. tested P (left =? 0) (λ _. next_fit (read_at log at) d at (length log) (moves log at) (byte_value log at b) f)
          (λ _. tested P (length pcm <? 4) (λ _. f) (λ _. ticks_of_fit everything (ticks_now left (length pcm)) d ram [] v f (eqb-true _ _ e))))
          (λ _. f)) (λ _. f)) (λ _. f);
      rework = rework-fit;
      rework_new = λ s ram log₁ log₂ pcm sheet readings b₁ b₂.
          let P : Left → Type 0 = (λ a. IsFit a.dsp) in
          let o = run_of new_dsp ram log₁ pcm sheet readings in
          tested P (refusal_of s new_dsp new_dsp ram log₁ log₂ =? 0)
          (λ _. tested P (o.refusal =? 0)
          (λ _. rework-fit s new_dsp o.dsp ram log₁ log₂ o.pcm o.sheet o.readings new_value b₂ new-fit (run-fit everything new_dsp ram log₁ pcm sheet readings new_value b₁ new-fit))
          (λ _. new-fit)) (λ _. new-fit);
    }
