-- A log as single beats, and what a play of them puts out, tick by tick; and the relations that the two halves of demand 3 keep.
use Rattle.std.proofs.Common.{if◌then◌else◌}
use mathlib.Core.Bool.{true}
use mathlib.Core.List.{List, [], ◌∷◌}
use mathlib.Core.Path.{◌≡◌, refl}
use Prim.Native.Nat.{ℕ, zero, suc, ◌<◌}
use lib.IntN.{pos}
use lib.ListN.{get_or, drop, length}
use Rattle.numbers.proofs.Choice.{chosen}
use Rattle.numbers.specs.Bits.{bit}
use Rattle.dsp.specs.Machine.{no_voice, Parts, Globals}
use Rattle.dsp.specs.With.{with_echo}
use Rattle.dsp.specs.Registers.{write_parts}
use Rattle.dsp.specs.Sheet.{lane_at}
use Rattle.dsp.specs.Echo.{EchoLane, echo_moved, echo_tick, echo_from, echo_lane}
use Rattle.dsp.specs.Tick.{Ticked, globals_tick, tick_of}
use Rattle.dsp.specs.declared.tick.Work.{Work}
use Rattle.chip_log.specs.declared.Record.{Record}
use Rattle.chip_log.specs.declared.Record.TheVariants.{Write, Ticks, Reading}
use Rattle.rework.specs.Alike.{named}
use Rattle.rework.specs.Members.{Fields, modes_after, joined_by}
use Rattle.rework.specs.Differ.{Outside, SameBut}

-- ---- beats

pub data Beat : Type 0 where
  put : ℕ → ℕ → Beat
  tick : Beat
  ask : ℕ → Beat

unfoldable pub ticks_then : ℕ → List Beat → List Beat
ticks_then zero bs = bs
ticks_then (suc n) bs = tick ∷ ticks_then n bs

unfoldable pub beats : List Record → List Beat
beats [] = []
beats (Write r x ∷ rs) = put r x ∷ beats rs
beats (Ticks n ∷ rs) = ticks_then n (beats rs)
beats (Reading r ∷ rs) = ask r ∷ beats rs

-- the registers and values of a log
unfoldable pub Small : List Beat → Type 0
Small [] = Unit {0}
Small (put i x ∷ bs) = (i < 128) × (x < 256) × Small bs
Small (tick ∷ bs) = Small bs
Small (ask r ∷ bs) = Small bs

-- without the named voices' own writes
unfoldable pub keep : ℕ → List Beat → List Beat
keep s [] = []
keep s (put i x ∷ bs) =
    if named s i then keep s bs else
    put i x ∷ keep s bs
keep s (tick ∷ bs) = tick ∷ keep s bs
keep s (ask r ∷ bs) = ask r ∷ keep s bs

abbrev pub modes_in : Globals → Fields
modes_in g = record { flg = g.flg; pmon = g.pmon }

-- FLG bit 5 is set at every tick
unfoldable pub Quiet : List Beat → Fields → Type 0
Quiet [] m = Unit {0}
Quiet (put i x ∷ bs) m = Quiet bs (modes_after i x m)
Quiet (tick ∷ bs) m = (bit m.flg 5 ≡ true) × Quiet bs m
Quiet (ask r ∷ bs) m = Quiet bs m

-- the set, tick by tick
unfoldable pub joins : List Beat → Fields → ℕ → ℕ
joins [] m a = a
joins (put i x ∷ bs) m a = joins bs (modes_after i x m) a
joins (tick ∷ bs) m a = joins bs m (joined_by m.pmon a)
joins (ask r ∷ bs) m a = joins bs m a

-- ---- what a play puts out

pub record Tape : Type 0 where
  pub parts : Parts
  pub ram : List ℕ
  pub frames : List (List ℕ)
  pub rows : List (List ℕ)
  pub readings : List ℕ

abbrev pub behind_tick : Ticked → Tape → Tape
behind_tick t x = record { parts = x.parts; ram = x.ram; frames = t.frame ∷ x.frames; rows = t.row ∷ x.rows; readings = x.readings }

abbrev pub behind_reading : ℕ → Tape → Tape
behind_reading v x = record { parts = x.parts; ram = x.ram; frames = x.frames; rows = x.rows; readings = v ∷ x.readings }

-- old: the sheet as it was found, from the next row on
unfoldable pub tape : Work → List Beat → List ℕ → Parts → List ℕ → Tape
tape w [] old p ram = record { parts = p; ram = ram; frames = []; rows = []; readings = [] }
tape w (put i x ∷ bs) old p ram = tape w bs old (write_parts i x p) ram
tape w (tick ∷ bs) old p ram =
    behind_tick (tick_of w old p ram) (tape w bs (drop 36 old) (tick_of w old p ram).parts (tick_of w old p ram).ram)
tape w (ask r ∷ bs) old p ram = behind_reading (get_or p.registers r 0) (tape w bs old p ram)

-- a tick changes neither of the two fields that decide
pub modes_tick : (w : Work) (old : List ℕ) (p : Parts) (ram : List ℕ) → modes_in (tick_of w old p ram).parts.globals ≡ modes_in p.globals
unfolding tick_of echo_lane echo_tick echo_moved echo_from globals_tick
modes_tick w old p ram = chosen (λ (e : EchoLane). modes_in e.echo.globals ≡ modes_in p.globals) w.echo refl refl

-- ---- a run and the run of its log without the named voices' own writes

-- lanes of voices outside the set, and the echo's, which is lane 8
abbrev pub SameLanes : ℕ → List ℕ → List ℕ → Type 0
SameLanes a x y = (j : ℕ) → j < 9 → (j < 8 → Outside a j) → lane_at j x ≡ lane_at j y

pub data Rows (a : ℕ) : List (List ℕ) → List (List ℕ) → Type 0 where
  none : Rows a [] []
  more : {x y : List ℕ} {xs ys : List (List ℕ)} → SameLanes a x y → Rows a xs ys → Rows a (x ∷ xs) (y ∷ ys)

pub record Kept (a : ℕ) (ram : List ℕ) (x y : Tape) : Type 0 where
  pub parts : SameBut a x.parts y.parts
  pub rows : Rows a x.rows y.rows
  pub left : x.ram ≡ ram
  pub right : y.ram ≡ ram

-- ---- a rework and the run of the same log

-- the numbers without the echo's, which a rework does not work
abbrev pub bare : Globals → Globals
bare g = with_echo g 0 0 (pos 0) (pos 0)

pub record Sim (a : ℕ) (p q : Parts) : Type 0 where
  pub bytes : p.registers ≡ q.registers
  pub count : length p.voices ≡ 8
  pub waits : length p.delays ≡ 8
  pub voices : (j : ℕ) → j < 8 → bit a j ≡ true → get_or p.voices j no_voice ≡ get_or q.voices j no_voice
  pub lefts : (j : ℕ) → j < 8 → (get_or p.voices j no_voice).left_vol ≡ (get_or q.voices j no_voice).left_vol
  pub rights : (j : ℕ) → j < 8 → (get_or p.voices j no_voice).right_vol ≡ (get_or q.voices j no_voice).right_vol
  pub delays : (j : ℕ) → j < 8 → bit a j ≡ true → get_or p.delays j 0 ≡ get_or q.delays j 0
  pub globals : bare p.globals ≡ bare q.globals

-- an old sheet that agrees with rows outside the set
pub data Over (a : ℕ) : List ℕ → List (List ℕ) → Type 0 where
  over : {old : List ℕ} → Over a old []
  upon : {old r : List ℕ} {rs : List (List ℕ)} → SameLanes a old r → Over a (drop 36 old) rs → Over a old (r ∷ rs)

pub record Right (a : ℕ) (x y : Tape) : Type 0 where
  pub frames : x.frames ≡ y.frames
  pub rows : x.rows ≡ y.rows
  pub readings : x.readings ≡ y.readings
  pub parts : Sim a x.parts y.parts
