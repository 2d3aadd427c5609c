-- A run that works every lane does not see the sheet that it found.
use mathlib.Core.List.{List, [], ◌∷◌}
use mathlib.Core.Path.{◌≡◌, refl, ap}
use Prim.Native.Nat.{ℕ, zero, suc}
use Rattle.dsp.specs.Tick.{everything}
use Rattle.dsp.specs.Ticks.{Bench, onward, bench_tick, ticks_of}
use Rattle.dsp.specs.Play.{Run, play, play_all}
use Rattle.dsp.proofs.Whole.{tick_whole}
use Rattle.chip_log.specs.declared.Record.{Record}
use Rattle.chip_log.specs.declared.Record.TheVariants.{Write, Ticks, Reading}

abbrev pub unseen_bench : Bench → Bench
unseen_bench b = record { parts = b.parts; ram = b.ram; pcm = b.pcm; sheet = b.sheet; old = [] }

abbrev pub unseen : Run → Run
unseen x = record { bench = unseen_bench x.bench; readings = x.readings }

pub ticks_unseen : (n : ℕ) (b : Bench) → unseen_bench (ticks_of everything n b) ≡ ticks_of everything n (unseen_bench b)
unfolding ticks_of bench_tick
ticks_unseen zero b = refl
ticks_unseen (suc n) b =
    let f = ticks_of everything n b in
    rw (← ticks_unseen n b) (ap (onward (unseen_bench f)) (tick_whole f.old [] f.parts f.ram))

play_unseen : (r : Record) (x : Run) → unseen (play everything r x) ≡ play everything r (unseen x)
unfolding play
play_unseen (Write r v) x = refl
play_unseen (Ticks n) x = rw (← ticks_unseen n x.bench)
play_unseen (Reading r) x = refl

pub all_unseen : (rs : List Record) (x : Run) → unseen (play_all everything rs x) ≡ play_all everything rs (unseen x)
unfolding play_all
all_unseen [] x = refl
all_unseen (r ∷ rs) x = rw (← play_unseen r x) (all_unseen rs (play everything r x))
