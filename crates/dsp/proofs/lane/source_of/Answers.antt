-- By the bit.
use native.Mathlib.Nat.{mod-eq_of_lt}
use mathlib.Core.Bool.{Bool, true, false}
use mathlib.Core.Path.{◌≡◌, refl}
use lib.IntN.{ℤ}
use mir.Facts.{to_z-of_z}
use Rattle.std.proofs.Common.{if◌then◌else◌}
use Rattle.std.specs.Bool.{then_some}
use Rattle.dsp.specs.Voice.{plain, modulated_by}
use Rattle.dsp.specs.Lane.{source_of}
use Rattle.dsp.specs.Inside.{as_source}
use Rattle.dsp.proofs.lane.source_of.Goals as goal

by_bit : (b : Bool) (x : ℤ) → as_source (then_some b x) ≡ (if b then modulated_by x else plain)
by_bit true x = refl
by_bit false x = refl

pub returns : goal.returns
unfolding source_of
returns c = rw (c.then_some.ensures, c.bit.ensures, mod-eq_of_lt c.requires, to_z-of_z c.ranges.prev) (by_bit _ _)
