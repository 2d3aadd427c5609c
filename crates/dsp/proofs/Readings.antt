-- Each definition computes to what document 01 reads.
use mathlib.Core.List.{◌∷◌, ◌++◌, map}
use mathlib.Core.Path.{◌≡◌, refl, ap}
use Prim.Native.Nat.{ℕ, zero, suc, ◌+◌, ◌-◌, ◌*◌, ◌/◌}
use native.Mathlib.Omega.{arith}
use borrow.Author.Tests.{le-ltb}
use lib.IntN.{ℤ, pos}
use lib.ListN.{take, drop}
use Rattle.numbers.specs.Signed.{minus}
use Rattle.sound.specs.Clock.{periods, period_of}
use Rattle.sound.specs.Envelope.{lowered}
use Rattle.sound.specs.Noise.{shifted}
use Rattle.dsp.specs.Clock.{fires, counted_on}
use Rattle.dsp.specs.Envelope.{settled, decay_tick, phase_tick, envelope_tick}
use Rattle.dsp.specs.Keys.{keyed_on}
use Rattle.dsp.specs.Voice.{pitch_of, position_of, samples_taken, modulated_by}
use Rattle.dsp.specs.Readings.{Reading, readings, AllAsTheDocument}

-- the lowest source stops any pitch
stopped : (base : ℕ) → pitch_of base (modulated_by (minus 32768)) ≡ pos 0
unfolding pitch_of
stopped zero = refl
stopped (suc b) =
    let e : 1024 * suc b ≡ suc (1024 * b + 1023) = omega arith in
    let d : (1024 * b + 1023) / 1024 ≡ b = omega arith in
    let z : suc b - suc b ≡ 0 = omega arith in
    rw (e, d, le-ltb (suc b) (suc b) (omega arith), z)

pub all_as_the_document : AllAsTheDocument
unfolding periods period_of fires counted_on settled lowered decay_tick phase_tick envelope_tick shifted pitch_of position_of samples_taken keyed_on
all_as_the_document base =
    let says = map (λ (r : Reading). r.says) (readings 0) in ap (λ (x : ℤ). take 9 says ++ (x ∷ drop 10 says)) (stopped base)
