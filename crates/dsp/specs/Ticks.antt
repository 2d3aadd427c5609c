-- Ticks one after another, register writes between them, and the public `ticks` and `step`.
use Rattle.std.specs.Prelude.{List, [], ◌++◌, ℕ, zero, suc, ◌*◌, length, drop, if◌then◌else◌}
use Rattle.numbers.specs.Choice.{◌=?◌}
use Rattle.dsp.specs.Machine.{Parts, apart, together}
use Rattle.dsp.specs.Fit.{fit}
use Rattle.dsp.specs.Registers.{write_parts}
use Rattle.dsp.specs.Tick.{everything, Ticked, tick_of}
use Rattle.dsp.specs.declared.registers.Dsp.{Dsp}
use Rattle.dsp.specs.declared.tick.Work.{Work}

-- ---- ticks one after another

-- the parts, RAM, the samples and the rows so far, and the sheet as it was found from the next row on
pub record Bench : Type 0 where
  pub parts : Parts
  pub ram : List ℕ
  pub pcm : List ℕ
  pub sheet : List ℕ
  pub old : List ℕ

abbrev pub onward : Bench → Ticked → Bench
onward b t = record { parts = t.parts; ram = t.ram; pcm = b.pcm ++ t.frame; sheet = b.sheet ++ t.row; old = drop 36 b.old }

unfoldable pub bench_tick : Work → Bench → Bench
bench_tick w b = onward b (tick_of w b.old b.parts b.ram)

-- n ticks
unfoldable pub ticks_of : Work → ℕ → Bench → Bench
ticks_of w zero b = b
ticks_of w (suc n) b = bench_tick w (ticks_of w n b)

-- a register write between two ticks
abbrev pub bench_write : ℕ → ℕ → Bench → Bench
bench_write i x b = record { parts = write_parts i x b.parts; ram = b.ram; pcm = b.pcm; sheet = b.sheet; old = b.old }

abbrev pub bench_of : Dsp → List ℕ → List ℕ → Bench
bench_of d ram old = record { parts = apart d; ram = ram; pcm = []; sheet = []; old = old }

-- ---- so many ticks, for a run and a rework

pub record Drove : Type 0 where
  pub refusal : ℕ
  pub dsp : Dsp
  pub ram : List ℕ
  pub pcm : List ℕ
  pub sheet : List ℕ

abbrev pub drove : Bench → Drove
drove b = record { refusal = 0; dsp = together b.parts; ram = b.ram; pcm = b.pcm; sheet = b.sheet }

abbrev pub undriven : ℕ → Dsp → List ℕ → List ℕ → List ℕ → Drove
undriven k d ram pcm sheet = record { refusal = k; dsp = d; ram = ram; pcm = pcm; sheet = sheet }

-- 1: the RAM slice isn't 65,536 bytes; 2: the record is unfit; 10: PCM 4, sheet 36 bytes a tick, exactly
unfoldable pub drive_of : Work → ℕ → Dsp → List ℕ → List ℕ → List ℕ → Drove
drive_of w n d ram pcm sheet =
    if length ram =? 0x10000 then
    (if fit d then
    (if length pcm =? n * 4 then
    (if length sheet =? n * 36 then drove (ticks_of w n (bench_of d ram sheet)) else undriven 10 d ram pcm sheet)
    else undriven 10 d ram pcm sheet)
    else undriven 2 d ram pcm sheet)
    else undriven 1 d ram pcm sheet

-- ---- the public step

pub record After : Type 0 where
  pub refusal : ℕ
  pub dsp : Dsp
  pub ram : List ℕ

abbrev pub ticked : Ticked → After
ticked t = record { refusal = 0; dsp = together t.parts; ram = t.ram }

abbrev pub refused : ℕ → Dsp → List ℕ → After
refused n d ram = record { refusal = n; dsp = d; ram = ram }

-- 1: the RAM slice isn't 65,536 bytes; 2: the record is unfit
unfoldable pub step_of : Dsp → List ℕ → After
step_of d ram =
    if length ram =? 0x10000 then
    (if fit d then ticked (tick_of everything [] (apart d) ram) else refused 2 d ram)
    else refused 1 d ram
