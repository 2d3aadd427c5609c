-- The digest so far is that of the registers that were passed.
use Rattle.std.proofs.Common.{◌≡◌, length, take}
use Rattle.report.specs.Digest.{fnv_all}
use Rattle.report.proofs.digest.with_registers.Given as goal

abbrev pub invariant-loop-register : goal.invariant-loop-register
invariant-loop-register l = (length l.dsp.registers ≡ 128) × (l.made ≡ fnv_all l.sum (take l.register l.dsp.registers))
