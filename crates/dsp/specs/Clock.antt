-- A counter that waits for a tick period. Each envelope keeps such a counter, and the noise another.
use Rattle.std.specs.Prelude.{Bool, not, ◌&&◌, ℕ, ◌+◌, if◌then◌else◌}
use Rattle.numbers.specs.Choice.{◌≤?◌, ◌=?◌}
use Rattle.sound.specs.Clock.{period_of}

-- whether an entry of the table fires at this tick. Entry 0, of period 0, never does
unfoldable pub fires : ℕ → ℕ → Bool
fires counter entry = not (period_of entry =? 0) && (period_of entry ≤? counter + 1)

-- the counter after the tick: 0 where the entry fires, and as it was where it never does
unfoldable pub counted_on : ℕ → ℕ → ℕ
counted_on counter entry =
    if fires counter entry then 0 else
    if period_of entry =? 0 then counter else
    counter + 1
