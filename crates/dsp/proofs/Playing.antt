-- A log played over the parts of the record.
use mathlib.Core.Bool.{true, ◌&&◌}
use mathlib.Core.List.{List}
use mathlib.Core.Path.{◌≡◌}
use Prim.Native.Nat.{ℕ, ◌*◌}
use lib.ListN.{length}
use Rattle.numbers.specs.Choice.{◌=?◌}
use Rattle.chip_log.specs.Measure.{Measured}
use Rattle.chip_log.proofs.Turn.{Taken}
use Rattle.dsp.specs.Inside.{Ready}
use Rattle.dsp.proofs.Tests.{eq, ◌and◌}

-- a log that is taken, and slices that fit it
pub ready : (log pcm sheet readings : List ℕ) (m : Measured) → Taken log m
    → ((length pcm =? m.ticks * 4) && (length sheet =? m.ticks * 36) && (length readings =? m.readings)) ≡ true → Ready log pcm sheet readings
ready log pcm sheet readings m t e =
    let f = (eq (length pcm) (m.ticks * 4) and eq (length sheet) (m.ticks * 36) and eq (length readings) m.readings).sound e in
    record { ticks = m.ticks; count = m.readings; all = t.all; pcm_is = f.0.0; sheet_is = f.0.1; readings_is = f.1 }
