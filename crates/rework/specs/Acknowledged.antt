-- Document 02, W-202: "any write to `$7C` leaves 0", as a law of the chip's own write; and writes that leave something else there, which it rules out.
-- That logs write as direct writes do is demand 2, and that a rework is a run is demand 3.
use Rattle.std.specs.Prelude.{Bool, true, not, ◌&&◌, ◌≡◌, ℕ, ◌%◌, get_or, set, if◌then◌else◌}
use Rattle.numbers.specs.Choice.{◌=?◌}
use Rattle.numbers.specs.Bits.{bit, with_bit}
use Rattle.numbers.specs.Listed.{turns}
use Rattle.dsp.specs.Machine.{globals_of, together}
use Rattle.dsp.specs.Fit.{fit}
use Rattle.dsp.specs.Registers.{Written, write_of}
use Rattle.dsp.specs.declared.registers.Dsp.{Dsp}

-- all as it was but for $7C
abbrev pub with_endx : ℕ → Dsp → Dsp
with_endx flags d =
    together
    (record {
      registers = set d.registers 0x7C flags;
      voices = d.voices;
      delays = d.kon_delay;
      taps = d.fir_coeff;
      left = d.fir_history_l;
      right = d.fir_history_r;
      globals = globals_of d;
    })

abbrev pub Acknowledges : (ℕ → ℕ → Dsp → Written) → Type 0
Acknowledges write = (index x : ℕ) (d : Dsp) → index % 128 ≡ 0x7C → fit d ≡ true → write index x d ≡ record { refusal = 0; dsp = with_endx 0 d }

-- ---- other rules: what is left, by the flags and the value that is written

abbrev pub leaving : (ℕ → ℕ → ℕ) → ℕ → ℕ → Dsp → Written
leaving rule index x d =
    if index % 128 =? 0x7C then record { refusal = 0; dsp = with_endx (rule (get_or d.registers 0x7C 0) x) d } else
    write_of index x d

-- "a write to `$7C` stores its byte": the Rust's
abbrev pub storing : ℕ → ℕ → ℕ
storing flags x = x

-- by each flag and the bit that is written to it
abbrev pub flagwise : (Bool → Bool → Bool) → ℕ → ℕ → ℕ
flagwise rule flags x = turns (λ j left. with_bit left j (rule (bit flags j) (bit x j))) 8 0

-- only flags that are written as 1 are cleared: those written as 0 are kept
abbrev pub clearing_ones : ℕ → ℕ → ℕ
clearing_ones = flagwise (λ flag written. flag && not written)

-- only flags that are written as 0 are cleared
abbrev pub clearing_zeros : ℕ → ℕ → ℕ
clearing_zeros = flagwise ◌&&◌

pub record Acknowledged : Type 0 where
  pub any : Acknowledges write_of
  pub not_stored : Acknowledges (leaving storing) → ⊥
  pub not_ones_alone : Acknowledges (leaving clearing_ones) → ⊥
  pub not_zeros_alone : Acknowledges (leaving clearing_zeros) → ⊥
