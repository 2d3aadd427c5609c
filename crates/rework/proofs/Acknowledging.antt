-- Any write to $7C leaves 0 there and moves nothing else; the other rules differ at flags $03 and value $01.
use mathlib.Core.Path.{◌≡◌, refl, ap}
use Prim.Native.Nat.{ℕ}
use native.Mathlib.Omega.{arith}
use lib.ListN.{get_or}
use Rattle.numbers.specs.Bits.{with_bit}
use Rattle.numbers.specs.Listed.{all, turns}
use Rattle.dsp.specs.PowerOn.{new_dsp}
use Rattle.dsp.specs.Fit.{fit}
use Rattle.dsp.specs.Registers.{Written, write_of, write_at, write_parts}
use Rattle.rework.specs.Acknowledged.{with_endx, Acknowledges, leaving, storing, clearing_ones, clearing_zeros, Acknowledged}

any-write : Acknowledges write_of
unfolding write_of write_at write_parts
any-write index x d e f = rw (f, e)

-- what a rule leaves there, which the law has as 0
left_there : (rule : ℕ → ℕ → ℕ) → Acknowledges (leaving rule) → rule 3 1 ≡ 0
unfolding fit all
left_there rule a = ap (λ (w : Written). get_or w.dsp.registers 0x7C 0) (a 0x7C 1 (with_endx 3 new_dsp) refl refl)

pub acknowledged : Acknowledged
unfolding turns with_bit
acknowledged =
    record {
      any = any-write;
      not_stored = λ a. let e : ◌≡◌ {A = ℕ} 1 0 = left_there storing a in absurd (omega arith);
      not_ones_alone = λ a. let e : ◌≡◌ {A = ℕ} 2 0 = left_there clearing_ones a in absurd (omega arith);
      not_zeros_alone = λ a. let e : ◌≡◌ {A = ℕ} 1 0 = left_there clearing_zeros a in absurd (omega arith);
    }
