-- A turn of a run: what a part puts out, and that the parts come to an end.
use Rattle.std.specs.Prelude.{◌≡◌, ℕ, ◌+◌, ◌-◌, ◌*◌, ◌≤◌, Option, Some, None, Result, Ok, Err}
use Rattle.sitting.specs.declared.parts.Heard.{Heard}
use Rattle.sitting.specs.declared.parts.Heard.TheVariants.{Nothing, Sound, Reading, End}
use Rattle.bench.specs.declared.running.Stopped.{Stopped}

-- a part's ticks lie in the PCM buffer, four bytes each
abbrev pub Fits : Heard → ℕ → Type 0
Fits (Sound n) room = n * 4 ≤ room
Fits Nothing room = Unit {0}
Fits (Reading r x) room = Unit {0}
Fits End room = Unit {0}

-- the readings printed after a part with which the run goes on, of q before it
abbrev pub Printed : Heard → ℕ → ℕ → Type 0
Printed Nothing q p = p ≡ q
Printed (Sound n) q p = p ≡ q
Printed (Reading r x) q p = p ≡ q + 1
Printed End q p = ⊥

-- it goes on after no end, and a reading more is one number more
abbrev pub Done : Heard → ℕ → Result (Option ℕ) Stopped → Type 0
Done heard q (Ok (Some p)) = Printed heard q p
Done heard q (Ok None) = Unit {0}
Done heard q (Err stopped) = Unit {0}

-- what is left of a log: its bytes from a place on, and the ticks still to come, of which a record has fewer than 65,536
abbrev pub weight : ℕ → ℕ → ℕ → ℕ
weight size at left = (size - at) * 0x10000 + left
