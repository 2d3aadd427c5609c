-- Demand 2: a run is `write_reg`, `step` with `render_audio_single`, and `read_reg`, one after another.
use mathlib.Core.List.{List, [], ◌∷◌, ◌++◌}
use mathlib.Core.Path.{◌≡◌, refl, sym, ap, ◌∙◌}
use Prim.Native.Nat.{ℕ, zero, suc, ◌<◌}
use native.Mathlib.Nat.{mod-eq_of_lt}
use lib.ListN.{length, get_or}
use borrow.Author.Tests.{eq-eqb}
use Rattle.dsp.specs.Machine.{Parts, together}
use Rattle.dsp.specs.Registers.{write_parts, write_at, write_of}
use Rattle.dsp.specs.Tick.{everything, tick_of}
use Rattle.dsp.specs.Ticks.{Bench, bench_tick, ticks_of, ticked, step_of}
use Rattle.dsp.specs.declared.registers.Dsp.{Dsp}
use Rattle.dsp.proofs.Fits.{fit_facts}
use Rattle.dsp.proofs.Whole.{tick_whole, tick_renders}
use Rattle.chip_log.specs.Log.{decode}
use Rattle.chip_log.specs.declared.Record.{Record}
use Rattle.chip_log.specs.declared.Record.TheVariants.{Write, Ticks, Reading}
use Rattle.dsp.specs.Play.{play, play_all, starting}
use Rattle.rework.specs.Demands.{Played, after_tick, tick_by, log_by, played_in, Demand2}
use Rattle.rework.proofs.Tape.{Beat, ticks_then, beats, Small}
use Rattle.rework.proofs.Beats.{small_beats}
use Rattle.rework.proofs.Taken.{unrefused, run_is}
use Rattle.rework.proofs.Keeps.{Whole, whole_tick, whole_write, whole_start, whole_fit, whole_sized}

abbrev playing : Bench → List ℕ → Played
playing b q = record { dsp = together b.parts; ram = b.ram; pcm = b.pcm; readings = q }

step_is : (old : List ℕ) (p : Parts) (ram : List ℕ) → Whole p ram → step_of (together p) ram ≡ ticked (tick_of everything old p ram)
unfolding step_of
step_is old p ram h = rw (eq-eqb (length ram) 0x10000 h.room, whole_fit h) (ap ticked (tick_whole [] old p ram))

tick_is : (b : Bench) (q : List ℕ) → Whole b.parts b.ram → after_tick (playing b q) (step_of (together b.parts) b.ram) ≡ playing (bench_tick everything b) q
unfolding bench_tick
tick_is b q h =
    let p = b.parts in
    let t = tick_of everything b.old p b.ram in
    let z = whole_sized h in
    let f = tick_renders (together p) b.ram b.old h.room z.registers z.voices z.delays (fit_facts (together p) (whole_fit h)) in
    ap (after_tick (playing b q)) (step_is b.old p b.ram h)
    ∙ (λ i. record { dsp = together t.parts; ram = t.ram; pcm = b.pcm ++ sym f i; readings = q })

record Many (c : Bench) (q : List ℕ) (x : Played) : Type 0 where
  is : x ≡ playing c q
  whole : Whole c.parts c.ram

ticks_are : (n : ℕ) (b : Bench) (q : List ℕ) → Whole b.parts b.ram → Many (ticks_of everything n b) q (tick_by n (playing b q))
unfolding ticks_of tick_by bench_tick
ticks_are zero b q h = record { is = refl; whole = h }
ticks_are (suc n) b q h =
    let r = ticks_are n b q h in
    let c = ticks_of everything n b in
    record {
      is = ap (λ (x : Played). after_tick x (step_of x.dsp x.ram)) r.is ∙ tick_is c q r.whole;
      whole = whole_tick everything c.old c.parts c.ram r.whole;
    }

write-is : (r x : ℕ) (p : Parts) (ram : List ℕ) → r < 128 → Whole p ram → (write_of r x (together p)).dsp ≡ together (write_parts r x p)
unfolding write_of write_at
write-is r x p ram l h = rw (whole_fit h, mod-eq_of_lt l)

small_behind : (n : ℕ) (bs : List Beat) → Small (ticks_then n bs) → Small bs
unfolding ticks_then Small
small_behind zero bs h = h
small_behind (suc n) bs h = small_behind n bs h

log_is : (rs : List Record) (b : Bench) (q : List ℕ) → Small (beats rs) → Whole b.parts b.ram
    → log_by rs (playing b q) ≡ (let x = play_all everything rs (record { bench = b; readings = q }) in playing x.bench x.readings)
unfolding log_by play_all play beats Small
log_is [] b q s h = refl
log_is (Write r x ∷ rs) b q s h =
    let c : Bench = record { parts = write_parts r x b.parts; ram = b.ram; pcm = b.pcm; sheet = b.sheet; old = b.old } in
    ap (λ (d : Dsp). log_by rs (record { dsp = d; ram = b.ram; pcm = b.pcm; readings = q })) (write-is r x b.parts b.ram s.0 h)
    ∙ log_is rs c q s.2 (whole_write r x b.parts b.ram s.0 s.1 h)
log_is (Ticks n ∷ rs) b q s h =
    let t = ticks_are n b q h in ap (log_by rs) t.is ∙ log_is rs (ticks_of everything n b) q (small_behind n (beats rs) s) t.whole
log_is (Reading r ∷ rs) b q s h = log_is rs b (q ++ (get_or b.parts.registers r 0 ∷ [])) s h

pub demand2 : Demand2
demand2 d ram log pcm sheet readings v b z =
    let f = unrefused everything d ram log pcm sheet readings z in
    log_is (decode log).records (starting d ram sheet).bench [] (small_beats log b) (whole_start d ram v f.fits f.ram_whole)
    ∙ sym (ap played_in (run_is everything d ram log pcm sheet readings f))
