-- Four stores fill the lane; the output has 16 bits.
use mathlib.Core.List.{[], ◌∷◌}
use mathlib.Core.Path.{◌∙◌}
use mir.Facts.{to_z-of_z}
use Rattle.numbers.proofs.Parts.{filled}
use Rattle.dsp.specs.Sheet.{lane_bytes}
use Rattle.dsp.proofs.lane.put_slot.Goals as goal

pub returns : goal.returns
unfolding lane_bytes
returns c = let s = c in
    filled (c.low.result ∷ c.high.result ∷ s.args.envx ∷ c.flag.result ∷ []) s.args.slot.now s.requires
    ∙ rw (c.low.ensures, c.high.ensures, c.flag.ensures, to_z-of_z s.ranges.out)
