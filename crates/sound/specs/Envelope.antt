-- The envelope: a level after a step.
use Rattle.std.specs.Prelude.{ℕ, ◌+◌, ◌-◌, ◌/◌, if◌then◌else◌}
use Rattle.numbers.specs.Choice.{◌<?◌, ◌=?◌}
use Rattle.numbers.specs.Unsigned.{least}

-- minus (level >> 8) + 1, not below 0
unfoldable pub lowered : ℕ → ℕ
lowered level = level - (level / 0x100 + 1)

-- GAIN's ramps, by bits 6-5 from 0 up
unfoldable pub gained : ℕ → ℕ → ℕ
gained mode level =
    if mode =? 0 then level - 32 else
    if mode =? 1 then lowered level else
    if mode =? 2 then least (level + 32) 0x7FF else
    if level <? 0x600 then least (level + 32) 0x7FF else
    least (level + 8) 0x7FF
