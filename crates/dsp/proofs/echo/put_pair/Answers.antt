-- Four stores fill the slot; both samples have 16 bits.
use mathlib.Core.List.{[], ◌∷◌}
use mathlib.Core.Path.{◌∙◌}
use mir.Facts.{to_z-of_z}
use Rattle.numbers.proofs.Parts.{filled}
use Rattle.dsp.specs.Sheet.{pair_bytes}
use Rattle.dsp.proofs.echo.put_pair.Goals as goal

pub returns : goal.returns
unfolding pair_bytes
returns c = let s = c in
    filled (c.low.result ∷ c.high.result ∷ c.low-2.result ∷ c.high-2.result ∷ []) s.args.slot.now s.requires
    ∙ rw (c.low.ensures, c.high.ensures, c.low-2.ensures, c.high-2.ensures, to_z-of_z s.ranges.l, to_z-of_z s.ranges.r)
