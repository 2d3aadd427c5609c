-- A part: that it moves on, and what its ticks leave.
use mathlib.Core.List.{List, ◌++◌}
use mathlib.Core.Logic.{◌≢◌}
use mathlib.Core.Path.{◌≡◌, refl, ap}
use Prim.Native.Nat.{ℕ, zero, suc, ◌-◌, ◌*◌, ◌≤◌}
use native.Mathlib.Omega.{arith}
use lib.ListN.{length, take, drop}
use lib.Seq.{length-take-le}
use borrow.Author.Tests.{ne_eqb}
use Rattle.dsp.specs.Fit.{Fit}
use Rattle.dsp.specs.Tick.{everything}
use Rattle.dsp.specs.Ticks.{bench_of, Drove, drive_of}
use Rattle.dsp.specs.declared.registers.Dsp.{Dsp}
use Rattle.dsp.proofs.Batches.{driven}
use Rattle.chip_log.specs.Log.{read_at, Moves}
use Rattle.chip_log.specs.declared.Record.TheVariants.{Write, Ticks, Reading}
use Rattle.chip_log.specs.Log.{Next}
use Rattle.chip_log.specs.Log.{On, Off}
use Rattle.chip_log.proofs.Places.{moves}
use Rattle.sitting.specs.Parts.{Told, Parted, telling, untold, stop_at, record_at, next_at, sounding_from, sounding, Goes}
use Rattle.sitting.specs.declared.parts.Heard.TheVariants.{Sound}
use Rattle.sitting.proofs.Runs.{ticks_unseen}

-- ---- on

-- a refusal owes nothing
pub refused_goes : (at left size : ℕ) {k at' left' : ℕ} {d : Dsp} {t : Told} → t ≡ untold k d at' left' → k ≢ 0 → Goes at left size t
refused_goes at left size e h = rw e (λ z. absurd (h z))

next_goes : (n : Next) (at size : ℕ) (d : Dsp) → Moves at size n → Goes at 0 size (next_at n d at)
unfolding next_at stop_at record_at
next_goes (Off zero) at size d m = tt
next_goes (Off (suc k)) at size d m = rw (ne_eqb (suc k) 0 (omega arith)) (λ z. absurd (omega arith))
next_goes (On (Write r x) behind) at size d m = λ z. (m.0, m.1)
next_goes (On (Ticks n) behind) at size d m = λ z. (m.0, m.1)
next_goes (On (Reading r) behind) at size d m = (m.0, m.1)

-- the answer at a record
pub next_told : (log : List ℕ) (at : ℕ) (d : Dsp) {n : Next} {t : Told} → n ≡ read_at log at → t ≡ next_at n d at → (t ≡ next_at (read_at log at) d at) × Goes at 0 (length log) t
next_told log at d is e = (rw (← is) e, rw (e, is) (next_goes (read_at log at) at (length log) d (moves log at)))

pub sound_goes : (n at left size : ℕ) (d : Dsp) (ram pcm : List ℕ) {p : Parted} → p ≡ sounding n d at left ram pcm → 1 ≤ n → n ≤ left → Goes at left size p.told
unfolding sounding
sound_goes n at left size d ram pcm e l m = rw e (refl, omega arith)

-- ---- the ticks

pub sound-is : (n : ℕ) (d : Dsp) (at left : ℕ) (ram pcm sheet : List ℕ) (x : Drove) (told : Told) → length ram ≡ 0x10000 → Fit d
    → n * 4 ≤ length pcm → length sheet ≡ n * 36 → x ≡ drive_of everything n d ram (take (n * 4) pcm) sheet → told ≡ telling x.dsp at (left - n) (Sound n)
    → ◌≡◌ {A = Parted} (record { told = told; ram = x.ram; pcm = x.pcm ++ drop (n * 4) pcm }) (sounding n d at left ram pcm)
unfolding sounding
sound-is n d at left ram pcm sheet x told lr f hp ls ex et =
    rw (et, ex, driven everything n d ram (take (n * 4) pcm) sheet lr f (length-take-le (n * 4) pcm hp) ls)
    (ap (sounding_from n at left pcm) (ticks_unseen n (bench_of d ram sheet)))
