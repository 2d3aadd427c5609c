-- A rework tells of eight voices at most.
use mathlib.Core.List.{List}
use mathlib.Core.Path.{◌≡◌, sym, subst}
use Prim.Native.Nat.{ℕ, zero, suc, ◌≤◌}
use native.Mathlib.Nat.{le_refl}
use native.Mathlib.Omega.{arith}
use Rattle.numbers.specs.Choice.{◌=?◌}
use Rattle.numbers.proofs.Choice.{chosen}
use Rattle.numbers.specs.Bits.{bit}
use Rattle.numbers.specs.Listed.{turns}
use Rattle.dsp.specs.PowerOn.{new_dsp}
use Rattle.dsp.specs.declared.registers.Dsp.{Dsp}
use Rattle.dsp.specs.Run.{run_with, run_of}
use Rattle.rework.specs.Members.{counted_in, voices_in}
use Rattle.rework.specs.Rework.{Left, refusal_of, set_of, only, rework_of, rework_new_of}

counted_in_le : (a n : ℕ) → turns (counted_in a) n 0 ≤ n
unfolding turns
counted_in_le a zero = le_refl 0
counted_in_le a (suc n) = let l = counted_in_le a n in chosen (λ (k : ℕ). k ≤ suc n) (bit a n) (omega (arith, l)) (omega (arith, l))

voices_le : (a : ℕ) → voices_in a ≤ 8
unfolding voices_in
voices_le a = counted_in_le a 8

abbrev Few : Left → Type 0
Few x = x.count ≤ 8

few : (s : ℕ) (start end : Dsp) (ram log₁ log₂ pcm sheet readings : List ℕ) → Few (rework_of s start end ram log₁ log₂ pcm sheet readings)
unfolding rework_of
few s start end ram log₁ log₂ pcm sheet readings =
    let a = set_of s start log₂ in
    chosen Few (refusal_of s start end ram log₁ log₂ =? 0) (chosen Few ((run_with (only a) start ram log₂ pcm sheet readings).refusal =? 0) (voices_le a) (omega arith)) (omega arith)

pub few_new : (s : ℕ) (ram log₁ log₂ pcm sheet readings : List ℕ) {x : Left} → x ≡ rework_new_of s ram log₁ log₂ pcm sheet readings → x.count ≤ 8
unfolding rework_new_of
few_new s ram log₁ log₂ pcm sheet readings e =
    let o = run_of new_dsp ram log₁ pcm sheet readings in
    subst Few (sym e) (chosen Few (refusal_of s new_dsp new_dsp ram log₁ log₂ =? 0) (chosen Few (o.refusal =? 0) (few s new_dsp o.dsp ram log₁ log₂ o.pcm o.sheet o.readings) (omega arith)) (omega arith))
