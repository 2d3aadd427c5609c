-- Part after part gives the run: what has been put out stays in front, ticks may be cut anywhere, and the place behind a record
-- leaves the records behind it.
use mathlib.Core.Bool.{◌&&◌, true}
use mathlib.Core.List.{List, [], ◌∷◌, ◌++◌, append_assoc, append-nil}
use mathlib.Core.Logic.{◌≢◌}
use mathlib.Core.Path.{◌≡◌, refl, sym, ap, ◌∙◌}
use Prim.Native.Nat.{ℕ, zero, suc, ◌+◌, ◌-◌, ◌*◌, ◌/◌, ◌≤◌}
use native.Mathlib.Omega.{arith}
use native.Mathlib.Nat.{add-suc, add-zero}
use lib.ListN.{length, drop, length-append}
use lib.Seq.{take_at, drop-nil}
use borrow.Author.Tests.{eqb-true, eqb-false, ne_eqb}
use Rattle.numbers.specs.Choice.{◌<?◌, ◌=?◌}
use Rattle.numbers.specs.Unsigned.{least}
use Rattle.numbers.proofs.Choice.{tested, least-both}
use Rattle.dsp.specs.Machine.{together}
use Rattle.dsp.specs.Fit.{fit}
use Rattle.dsp.specs.Registers.{write_at}
use Rattle.dsp.specs.Sheet.{pair_bytes}
use Rattle.dsp.specs.Tick.{everything, tick_of}
use Rattle.dsp.specs.Ticks.{Bench, bench_of, bench_tick, ticks_of}
use Rattle.dsp.specs.declared.registers.Dsp.{Dsp}
use Rattle.chip_log.specs.Log.{read_at, decode, records_from}
use Rattle.chip_log.specs.Measure.{measure_of}
use Rattle.chip_log.specs.Measure.{Measured}
use Rattle.chip_log.specs.declared.Record.{Record}
use Rattle.chip_log.specs.declared.Record.TheVariants.{Write, Ticks, Reading}
use Rattle.chip_log.specs.Log.{Next}
use Rattle.chip_log.specs.Log.{On, Off}
use Rattle.chip_log.proofs.Places.{opened_at, closed_at}
use Rattle.dsp.specs.Play.{Run, register_in, play, play_all, starting}
use Rattle.sitting.specs.Parts.{Parted, unparted, stop_at, record_at, next_at, ticks_now, sounding, log_refusal, part_of, Rest, rest_in, rest_of, ahead, PartAfterPart, PartsBegin, PartsEnd}
use Rattle.dsp.specs.Run.{Outcome, run_measured, run_with}
use Rattle.sitting.specs.declared.parts.Heard.TheVariants.{End}
use Rattle.sitting.proofs.Runs.{all_unseen}

-- ---- what has been put out stays in front

abbrev front_bench : List ℕ → List ℕ → Bench → Bench
front_bench p s b = record { parts = b.parts; ram = b.ram; pcm = p ++ b.pcm; sheet = s ++ b.sheet; old = b.old }

abbrev front : List ℕ → List ℕ → List ℕ → Run → Run
front p s q x = record { bench = front_bench p s x.bench; readings = q ++ x.readings }

module _ (p s q : List ℕ) where
  ticks_front : (n : ℕ) (b : Bench) → ticks_of everything n (front_bench p s b) ≡ front_bench p s (ticks_of everything n b)
  unfolding ticks_of bench_tick
  ticks_front zero b = refl
  ticks_front (suc n) b = rw (ticks_front n b) (simp append_assoc)

  play_front : (r : Record) (x : Run) → play everything r (front p s q x) ≡ front p s q (play everything r x)
  unfolding play
  play_front (Write r v) x = refl
  play_front (Ticks n) x = rw (ticks_front n x.bench)
  play_front (Reading r) x = rw append_assoc

  all_front : (rs : List Record) (x : Run) → play_all everything rs (front p s q x) ≡ front p s q (play_all everything rs x)
  unfolding play_all
  all_front [] x = refl
  all_front (r ∷ rs) x = rw (play_front r x) (all_front rs (play everything r x))

-- ---- ticks

ticks_cut : (n m : ℕ) (b : Bench) → ticks_of everything (n + m) b ≡ ticks_of everything m (ticks_of everything n b)
unfolding ticks_of
ticks_cut n zero b = rw add-zero
ticks_cut n (suc m) b = rw add-suc (ap (bench_tick everything) (ticks_cut n m b))

heard_size : (n : ℕ) (b : Bench) → length (ticks_of everything n b).pcm ≡ length b.pcm + n * 4
unfolding ticks_of bench_tick tick_of pair_bytes
heard_size zero b = omega arith
heard_size (suc n) b = rw length-append (omega (arith, heard_size n b))

old_none : (n : ℕ) (d : Dsp) (ram : List ℕ) → (ticks_of everything n (bench_of d ram [])).old ≡ []
unfolding ticks_of bench_tick
old_none zero d ram = refl
old_none (suc n) d ram = rw (old_none n d ram) (drop-nil 36)

-- ---- a part

module _ (d : Dsp) (at left : ℕ) (ram log : List ℕ) where
  -- what is promised of a part that came to p
  abbrev After : Parted → Type 0
  After p = p.told.refusal ≡ 0 → rest_of d at left ram log ≡ ahead p.told.heard p.pcm (rest_of p.told.dsp p.told.at p.told.left p.ram log)

  abbrev Last : Parted → Type 0
  Last p = p.told.heard ≡ End → rest_of d at left ram log ≡ record { pcm = []; readings = []; dsp = d; ram = ram }

module _ (d : Dsp) (at : ℕ) (ram log pcm : List ℕ) where
  abbrev At : Next → Parted
  At n = record { told = next_at n d at; ram = ram; pcm = pcm }

  next_after : (n : Next) → read_at log at ≡ n → After d at 0 ram log (At n)
  unfolding next_at record_at stop_at rest_of play_all play ticks_of write_at
  next_after (Off zero) e = λ z. refl
  next_after (Off (suc k)) e = rw (ne_eqb (suc k) 0 (omega arith)) (λ z. absurd (omega arith))
  next_after (On (Write r v) behind) e = λ z. rw (opened_at log at behind (Write r v) e)
  next_after (On (Ticks n) behind) e = λ z. rw (opened_at log at behind (Ticks n) e)
  next_after (On (Reading r) behind) e =
      λ z. rw (opened_at log at behind (Reading r) e, all_front [] [] (register_in (bench_of d ram []) r ∷ []) (records_from log behind) (starting d ram []))

  next_last : (n : Next) → read_at log at ≡ n → Last d at 0 ram log (At n)
  unfolding next_at record_at stop_at rest_of play_all play ticks_of
  next_last (Off zero) e = λ z. rw (closed_at log at 0 e)
  next_last (Off (suc k)) e = rw (ne_eqb (suc k) 0 (omega arith)) (λ z. cc)
  next_last (On (Write r v) behind) e = λ z. cc
  next_last (On (Ticks n) behind) e = λ z. cc
  next_last (On (Reading r) behind) e = λ z. cc

  sound-after : (n left : ℕ) → n ≤ left → After d at left ram log (sounding n d at left ram pcm)
  unfolding sounding rest_of play_all play
  sound-after n left l =
      let rs = records_from log at in
      let b = ticks_of everything n (bench_of d ram []) in
      let c = bench_of (together b.parts) b.ram [] in
      let m = left - n in
      let el : left ≡ n + m = omega arith in
      let eb : b ≡ front_bench b.pcm b.sheet c = simp append-nil (λ i. record { parts = b.parts; ram = b.ram; pcm = b.pcm; sheet = b.sheet; old = old_none n d ram i }) in
      let e₁ : ticks_of everything left (bench_of d ram []) ≡ front_bench b.pcm b.sheet (ticks_of everything m c) =
      cc (ticks_cut n m (bench_of d ram []), ticks_front b.pcm b.sheet [] m c) in
      let e₂ = all_front b.pcm b.sheet [] rs (record { bench = ticks_of everything m c; readings = [] }) in
      let e₃ = take_at b.pcm (drop (n * 4) pcm) (n * 4) (heard_size n (bench_of d ram []) ∙ omega arith) in
      λ z. ap (λ (x : Bench). rest_in (play_all everything rs (record { bench = x; readings = [] }))) e₁ ∙ ap rest_in e₂ ∙ rw e₃

-- ---- by the tests of a part

-- what a part that is not refused has passed
pub record Admitted (d : Dsp) (at : ℕ) (ram log : List ℕ) : Type 0 where
  pub ram-is : length ram ≡ 0x10000
  pub fit_is : fit d ≡ true
  pub log_is : log_refusal at log ≡ 0

module _ (P : Parted → Type 0) (d : Dsp) (at left : ℕ) (ram log pcm : List ℕ) where
  pub by_tests : ((k : ℕ) → k ≢ 0 → P (unparted k d at left ram pcm))
      → (Admitted d at ram log → left ≡ 0 → P (record { told = next_at (read_at log at) d at; ram = ram; pcm = pcm }))
      → (Admitted d at ram log → P (sounding (ticks_now left (length pcm)) d at left ram pcm))
      → P (part_of d at left ram log pcm)
  unfolding part_of
  by_tests refusal next sound =
      let owed : (k : ℕ) → suc k ≢ 0 = (λ k e. absurd (omega arith)) in
      tested P (length ram =? 0x10000) (λ r. tested P (fit d) (λ f. tested P (log_refusal at log =? 0)
      (λ l. let a : Admitted d at ram log = record { ram-is = eqb-true _ _ r; fit_is = f; log_is = eqb-true _ _ l } in
      tested P (left =? 0) (λ e. next a (eqb-true left 0 e)) (λ _. tested P (length pcm <? 4) (λ _. refusal 10 (owed 9)) (λ _. sound a)))
      (λ e. refusal (log_refusal at log) (eqb-false (log_refusal at log) 0 e))) (λ _. refusal 2 (owed 1)))
      (λ _. refusal 1 (owed 0))

now_few : (left room : ℕ) → ticks_now left room ≤ left
unfolding ticks_now
now_few left room = omega (arith, least-both (room / 4) (least left 64), least-both left 64)

pub part-after-part : PartAfterPart
part-after-part d at left ram log pcm =
    by_tests (After d at left ram log) d at left ram log pcm
    (λ k h e. absurd (h e))
    (λ a z. rw z (next_after d at ram log pcm (read_at log at) refl))
    (λ a. sound-after d at ram log pcm (ticks_now left (length pcm)) left (now_few left (length pcm)))

pub parts-end : PartsEnd
unfolding sounding
parts-end d at left ram log pcm =
    by_tests (Last d at left ram log) d at left ram log pcm
    (λ k h e. cc)
    (λ a z. rw z (next_last d at ram log pcm (read_at log at) refl))
    (λ a e. cc)

-- ---- before the first part

abbrev Whole : Dsp → List ℕ → List ℕ → Outcome → Type 0
Whole d ram log o = o.refusal ≡ 0 → ◌≡◌ {A = Rest} (rest_of d 0 0 ram log) (record { pcm = o.pcm; readings = o.readings; dsp = o.dsp; ram = o.ram })

measured_whole : (m : Measured) (d : Dsp) (ram log pcm sheet readings : List ℕ) → Whole d ram log (run_measured everything m d ram log pcm sheet readings)
unfolding run_measured rest_of play_all play ticks_of decode
measured_whole m d ram log pcm sheet readings =
    tested (Whole d ram log) (m.refusal =? 0)
    (λ _. tested (Whole d ram log) ((length pcm =? m.ticks * 4) && (length sheet =? m.ticks * 36) && (length readings =? m.readings))
    (λ _ e. ap rest_in (sym (all_unseen (decode log).records (starting d ram sheet))))
    (λ _ e. absurd (omega arith)))
    (λ f e. absurd (eqb-false m.refusal 0 f e))

pub parts_begin : PartsBegin
unfolding run_with
parts_begin d ram log pcm sheet readings =
    tested (Whole d ram log) (length ram =? 0x10000)
    (λ _. tested (Whole d ram log) (fit d) (λ _. measured_whole (measure_of log) d ram log pcm sheet readings) (λ _ e. absurd (omega arith)))
    (λ _ e. absurd (omega arith))
