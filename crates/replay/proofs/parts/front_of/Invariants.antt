-- The records passed are equal, and what they handed on is what the next is handed.
use Rattle.dsp.specs.Noise.{Noise}
use Rattle.replay.specs.declared.records.Carry.{Carry}
use Rattle.replay.proofs.Fronts.{UpTo}
use Rattle.replay.proofs.parts.front_of.Given as goal

-- the noise that is handed on
abbrev pub noise_in : Carry → Noise
noise_in c = record { lfsr = c.lfsr; counter = c.counter }

abbrev pub invariant-loop-equal : goal.invariant-loop-equal
invariant-loop-equal l = UpTo l.leaf l.part (noise_in l.initial.handed) l.equal (noise_in l.handed)
