-- A log that `measure_of` takes: no part of it is refused, from the first stage on. Of any other log the first part is.
use mathlib.Core.List.{List, [], ◌∷◌}
use mathlib.Core.Path.{◌≡◌, refl, ap}
use Prim.Native.Nat.{ℕ, zero, suc, ◌≤◌, ◌<◌}
use native.Mathlib.Omega.{arith}
use lib.ListN.{length, get_or}
use borrow.Author.Tests.{eq-eqb, ne_eqb, le-ltb}
use Rattle.numbers.specs.Choice.{◌=?◌}
use Rattle.numbers.proofs.Choice.{chosen}
use Rattle.dsp.specs.Machine.{together}
use Rattle.dsp.specs.Registers.{write_at}
use Rattle.dsp.specs.Tick.{everything}
use Rattle.dsp.specs.Ticks.{Bench, bench_of}
use Rattle.dsp.specs.declared.registers.Dsp.{Dsp}
use Rattle.dsp.proofs.Fits.{facts_fit, fit_facts}
use Rattle.dsp.proofs.Ticks.{BenchFit, bench-fit, fit-bench, fit-kept-ticks, fit-kept-bench-write}
use Rattle.chip_log.specs.Log.{read_at}
use Rattle.chip_log.specs.Measure.{measure_of}
use Rattle.chip_log.specs.declared.Record.{Record}
use Rattle.chip_log.specs.declared.Record.TheVariants.{Write, Ticks, Reading}
use Rattle.chip_log.specs.Measure.{Measured}
use Rattle.chip_log.specs.Log.{Next}
use Rattle.chip_log.specs.Log.{On, Off}
use Rattle.chip_log.proofs.Places.{moves, ByteValue, byte_value}
use Rattle.chip_log.proofs.Turn.{Here, Taken, taken, here_first, turned, ended}
use Rattle.sitting.specs.Parts.{Parted, stop_at, record_at, next_at, ticks_now, sounding, log_refusal, part_of, further_parts, Roomy, PartsChecked}
use Rattle.sitting.proofs.Together.{Admitted, by_tests}

-- a stage that parts come to: its place is reached by the log's records, the record is fit, RAM has its length
pub record Reached (log : List ℕ) (d : Dsp) (at : ℕ) (ram : List ℕ) : Type 0 where
  pub ticks : ℕ
  pub readings : ℕ
  pub here : Here log at ticks readings
  pub fit : BenchFit (bench_of d ram [])

-- a part that is not refused, and comes to such a stage
pub record Unrefused (log : List ℕ) (p : Parted) : Type 0 where
  pub taken : p.told.refusal ≡ 0
  pub next : Reached log p.told.dsp p.told.at p.ram

-- before the first part
pub reached_first : (log : List ℕ) (d : Dsp) (ram : List ℕ) → BenchFit (bench_of d ram []) → Reached log d 0 ram
reached_first log d ram f = record { ticks = 0; readings = 0; here = here_first log; fit = f }

again : (b : Bench) → BenchFit b → BenchFit (bench_of (together b.parts) b.ram [])
again b f = record { ram = f.ram; round = f.round; globals = f.globals }

module _ (log : List ℕ) (m : Measured) (t : Taken log m) (bytes : (i : ℕ) → get_or log i 0 < 256) where
  module _ (d : Dsp) (at : ℕ) (ram pcm : List ℕ) (r : Reached log d at ram) where
    abbrev At : Next → Parted
    At n = record { told = next_at n d at; ram = ram; pcm = pcm }

    behind : {x : Record} {b : ℕ} (d' : Dsp) → read_at log at ≡ On x b → BenchFit (bench_of d' ram []) → Reached log d' b ram
    behind d' e f = record { ticks = _; readings = _; here = (turned r.here refl t.all e (moves log at)).here; fit = f }

    next_unrefused : (n : Next) → read_at log at ≡ n → ByteValue n → Unrefused log (At n)
    unfolding next_at record_at stop_at write_at
    next_unrefused (Off k) e v = rw (ended r.here refl t.all e).0.stops (record { taken = refl; next = r })
    next_unrefused (On (Write g x) b) e v =
        let u = turned r.here refl t.all e (moves log at) in
        record { taken = refl; next = behind _ e (again _ (fit-kept-bench-write g x (bench_of d ram []) u.known v r.fit)) }
    next_unrefused (On (Ticks n) b) e v = record { taken = refl; next = behind d e r.fit }
    next_unrefused (On (Reading g) b) e v = record { taken = refl; next = behind d e r.fit }

    sound_unrefused : (n left : ℕ) → Unrefused log (sounding n d at left ram pcm)
    unfolding sounding
    sound_unrefused n left =
        record { taken = refl; next = record { ticks = _; readings = _; here = r.here; fit = again _ (fit-kept-ticks everything n (bench_of d ram []) r.fit) } }

    log_taken : log_refusal at log ≡ 0
    unfolding log_refusal measure_of
    log_taken = let s = le-ltb _ _ t.short in chosen (λ (k : ℕ). k ≡ 0) (at =? 0) (rw s (ap (λ (x : Measured). x.refusal) t.all)) (rw s)

    -- a part at a record, or one with room for a sample
    record_unrefused : Unrefused log (part_of d at 0 ram log pcm)
    unfolding part_of
    record_unrefused =
        rw (eq-eqb _ _ r.fit.ram, facts_fit d (bench-fit _ r.fit), eq-eqb _ _ log_taken) (next_unrefused (read_at log at) refl (byte_value log at bytes))

    pub part_unrefused : (left : ℕ) → 4 ≤ length pcm → Unrefused log (part_of d at left ram log pcm)
    unfolding part_of
    part_unrefused zero h = record_unrefused
    part_unrefused (suc left) h =
        rw (eq-eqb _ _ r.fit.ram, facts_fit d (bench-fit _ r.fit), eq-eqb _ _ log_taken, ne_eqb (suc left) 0 (omega arith), le-ltb (length pcm) 4 h)
        (sound_unrefused (ticks_now (suc left) (length pcm)) (suc left))

  -- part after part
  parts_unrefused : (pcms : List (List ℕ)) → Roomy pcms → (p : Parted) → Unrefused log p → (further_parts p log pcms).told.refusal ≡ 0
  unfolding further_parts
  parts_unrefused [] h p u = u.taken
  parts_unrefused (pcm ∷ pcms) h p u =
      parts_unrefused pcms h.1 _ (part_unrefused p.told.dsp p.told.at p.ram pcm u.next p.told.left h.0)

pub parts_checked : PartsChecked
unfolding log_refusal
parts_checked d ram log pcm typed e =
    let b = by_tests (λ p. p.told.refusal ≡ 0 → Admitted d 0 ram log) d 0 0 ram log pcm (λ k h e. absurd (h e)) (λ a z e. a) (λ a e. a) e in
    let t = taken log (measure_of log) refl b.log_is in
    let f = fit-bench d ram [] [] [] b.ram-is typed.0 typed.1 typed.2 (fit_facts d b.fit_is) in
    let u = record_unrefused log (measure_of log) t typed.3 d 0 ram pcm (reached_first log d ram f) in
    (b.log_is, λ pcms h. parts_unrefused log (measure_of log) t typed.3 pcms h _ u)
