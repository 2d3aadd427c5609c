-- A row of the sheet grows lane by lane, each of a voice's cell.
use mathlib.Core.List.{List, ◌++◌}
use mathlib.Core.Path.{◌≡◌, ap, ◌∙◌}
use Prim.Native.Nat.{ℕ, ◌*◌}
use native.Mathlib.Omega.{arith}
use lib.ListN.{get_or, take, length}
use lib.Seq.{take_all, drop_at}
use Rattle.dsp.specs.Machine.{no_voice}
use Rattle.dsp.specs.Sheet.{lane_at, lane_bytes}
use Rattle.dsp.specs.Lane.{Cell, own_cell, Shared}
use Rattle.dsp.specs.Tick.{Round}

-- the cell that voice j comes to in a round, where it is worked
abbrev pub cell_in : Shared → List ℕ → ℕ → Round → Cell
cell_in c ram j r = own_cell c ram j r.sums.prev (get_or r.voices j no_voice) (get_or r.delays j 0) r.bytes

abbrev pub slot_of : Cell → List ℕ
slot_of x = lane_bytes x.out x.envx x.endx

-- the lane that is put behind j others is lane j
pub lane_last : (j : ℕ) (row slot : List ℕ) → length row ≡ j * 4 → length slot ≡ 4 → lane_at j (row ++ slot) ≡ slot
lane_last j row slot h k = ap (take 4) (drop_at row slot (j * 4) h) ∙ take_all 4 slot (omega arith)
