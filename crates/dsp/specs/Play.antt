-- The records of a log, played one after another.
use Rattle.std.specs.Prelude.{List, [], ◌∷◌, ◌++◌, ℕ, get_or}
use Rattle.dsp.specs.Ticks.{Bench, bench_of, bench_write, ticks_of}
use Rattle.dsp.specs.declared.registers.Dsp.{Dsp}
use Rattle.dsp.specs.declared.tick.Work.{Work}
use Rattle.chip_log.specs.declared.Record.{Record}
use Rattle.chip_log.specs.declared.Record.TheVariants.{Write, Ticks, Reading}

-- the machine with what it has put out so far, and the readings so far
pub record Run : Type 0 where
  pub bench : Bench
  pub readings : List ℕ

-- a register's byte, as it stands
abbrev pub register_in : Bench → ℕ → ℕ
register_in b r = get_or b.parts.registers r 0

-- one record; w: the lanes that a tick works
unfoldable pub play : Work → Record → Run → Run
play w (Write r x) s = record { bench = bench_write r x s.bench; readings = s.readings }
play w (Ticks n) s = record { bench = ticks_of w n s.bench; readings = s.readings }
play w (Reading r) s = record { bench = s.bench; readings = s.readings ++ (register_in s.bench r ∷ []) }

unfoldable pub play_all : Work → List Record → Run → Run
play_all w [] s = s
play_all w (r ∷ rs) s = play_all w rs (play w r s)

-- a record with nothing put out yet; old: the sheet as it was found
abbrev pub starting : Dsp → List ℕ → List ℕ → Run
starting d ram old = record { bench = bench_of d ram old; readings = [] }
