-- What a part's contract says of a turn: its ticks lie in the buffer, and less of the log is left.
use mathlib.Core.List.{List}
use mathlib.Core.Path.{◌≡◌, subst⁻¹}
use Prim.Native.Nat.{ℕ, ◌/◌, ◌*◌, ◌≤◌, ◌<◌}
use native.Mathlib.Omega.{arith}
use lib.ListN.{length}
use Rattle.numbers.specs.Choice.{◌<?◌, ◌=?◌}
use Rattle.numbers.specs.Unsigned.{least}
use Rattle.numbers.proofs.Choice.{chosen, least-both}
use Rattle.dsp.specs.Fit.{fit}
use Rattle.dsp.specs.declared.registers.Dsp.{Dsp}
use Rattle.chip_log.specs.Log.{read_at}
use Rattle.chip_log.specs.declared.Record.TheVariants.{Write, Ticks, Reading}
use Rattle.chip_log.specs.Log.{Next}
use Rattle.chip_log.specs.Log.{On, Off}
use Rattle.sitting.specs.Parts.{Told, Parted, stop_at, record_at, next_at, ticks_now, sounding, log_refusal, part_of, Moved}
use Rattle.sitting.specs.declared.parts.Heard.{Heard}
use Rattle.sitting.specs.declared.parts.Heard.TheVariants.{Nothing, Sound, Reading as Read, End}
use Rattle.bench.specs.Turn.{Fits, Printed, weight}

module _ (d : Dsp) (at left : ℕ) (ram log pcm : List ℕ) where
  abbrev Lies : Parted → Type 0
  Lies p = Fits p.told.heard (length pcm)

  -- a record sounds no tick
  silent : (n : Next) → Fits (next_at n d at).heard (length pcm)
  unfolding next_at stop_at record_at
  silent (Off k) = chosen (λ (t : Told). Fits t.heard (length pcm)) (k =? 0) tt tt
  silent (On (Write r x) behind) = tt
  silent (On (Ticks n) behind) = tt
  silent (On (Reading r) behind) = tt

  room : ticks_now left (length pcm) * 4 ≤ length pcm
  unfolding ticks_now
  room = let l = (least-both (length pcm / 4) (least left 64)).0 in omega (arith, l)

  lies : Lies (part_of d at left ram log pcm)
  unfolding part_of sounding
  lies =
      chosen Lies (length ram =? 0x10000)
      (chosen Lies (fit d)
      (chosen Lies (log_refusal at log =? 0)
      (chosen Lies (left =? 0) (silent (read_at log at))
      (chosen Lies (length pcm <? 4) tt room)) tt) tt) tt

  -- the ticks of a part lie in the buffer
  pub fits : (p : Parted) → p ≡ part_of d at left ram log pcm → Fits p.told.heard (length pcm)
  fits p e = subst⁻¹ Lies e lies

-- a turn with which the run goes on leaves less, within the log, and no more readings than bytes lie behind it
pub record Onward (size at left at' left' p : ℕ) : Type 0 where
  pub less : weight size at' left' < weight size at left
  pub within : at' ≤ size
  pub few : p ≤ at'

pub onward : (h : Heard) {size at left q k at' left' p : ℕ} → Moved at left size h k at' left' → k ≡ 0 → Printed h q p → left' < 0x10000 → at ≤ size → q ≤ at
    → Onward size at left at' left' p
onward Nothing m z e l w f = let v = m z in let a = v.0 in let b = v.1 in record { less = omega (arith, a, b, l); within = b; few = omega (arith, a, e, f) }
onward (Sound n) m z e l w f = let a = m.0 in let b = m.1 in record { less = omega (arith, a, b); within = omega (arith, a, w); few = omega (arith, a, e, f) }
onward (Read r x) m z e l w f = let a = m.0 in let b = m.1 in record { less = omega (arith, a, b, l); within = b; few = omega (arith, a, e, f) }
onward End m z e l w f = absurd e
