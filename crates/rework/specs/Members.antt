-- The voices that a rework works, and whether echo writing is off at every tick (document 01, "Rework").
use Rattle.std.specs.Prelude.{Bool, true, ◌&&◌, ◌||◌, List, [], ◌∷◌, ℕ, zero, suc, ◌+◌, ◌*◌, ◌/◌, if◌then◌else◌}
use Rattle.numbers.specs.Choice.{◌=?◌}
use Rattle.numbers.specs.Bits.{bit, with_bit}
use Rattle.numbers.specs.Listed.{turns}
use Rattle.dsp.specs.Registers.{at}
use Rattle.dsp.specs.declared.registers.Dsp.{Dsp}
use Rattle.chip_log.specs.declared.Record.{Record}
use Rattle.chip_log.specs.declared.Record.TheVariants.{Write, Ticks, Reading}

-- ---- the two fields that decide, as the writes leave them; a tick changes neither

pub record Fields : Type 0 where
  pub flg : ℕ
  pub pmon : ℕ

abbrev pub modes_of : Dsp → Fields
modes_of d = record { flg = d.flg; pmon = d.pmon }

abbrev pub modes_after : ℕ → ℕ → Fields → Fields
modes_after r x m = record { flg = at r 0x6C x m.flg; pmon = at r 0x2D (x / 2 * 2) m.pmon }

abbrev pub modes_by : Record → Fields → Fields
modes_by (Write r x) m = modes_after r x m
modes_by (Ticks n) m = m
modes_by (Reading r) m = m

-- ---- FLG bit 5 is set at every tick

abbrev pub quiet_in : Record → Fields → Bool
quiet_in (Write r x) m = true
quiet_in (Ticks n) m = (n =? 0) || bit m.flg 5
quiet_in (Reading r) m = true

unfoldable pub quiet : List Record → Fields → Bool
quiet [] m = true
quiet (r ∷ rs) m = quiet_in r m && quiet rs (modes_by r m)

-- ---- "the set A starts as S; at each tick, from voice 1 up, voice j joins if j - 1 is in A and PMON bit j is set"

abbrev pub join_after : ℕ → ℕ → ℕ → ℕ
join_after pmon j a =
    if bit a j && bit pmon (j + 1) then with_bit a (j + 1) true else
    a

unfoldable pub joined_by : ℕ → ℕ → ℕ
joined_by pmon a = turns (join_after pmon) 7 a

-- over so many ticks
unfoldable pub joined_over : ℕ → ℕ → ℕ → ℕ
joined_over zero pmon a = a
joined_over (suc n) pmon a = joined_by pmon (joined_over n pmon a)

abbrev pub joined_in : Record → Fields → ℕ → ℕ
joined_in (Write r x) m a = a
joined_in (Ticks n) m a = joined_over n m.pmon a
joined_in (Reading r) m a = a

unfoldable pub members : List Record → Fields → ℕ → ℕ
members [] m a = a
members (r ∷ rs) m a = members rs (modes_by r m) (joined_in r m a)

-- ---- how many they are

abbrev pub counted_in : ℕ → ℕ → ℕ → ℕ
counted_in a j n =
    if bit a j then n + 1 else
    n

unfoldable pub voices_in : ℕ → ℕ
voices_in a = turns (counted_in a) 8 0
