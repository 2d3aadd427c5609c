-- The first i bytes are copied, the others as they were found.
use Rattle.std.proofs.Common.{take}
use Rattle.numbers.proofs.Parts.{Written}
use Rattle.numbers.proofs.copy.Given as goal

abbrev pub invariant-loop-i : goal.invariant-loop-i
invariant-loop-i l = Written l.initial.to l.to l.i (take l.i l.from)
