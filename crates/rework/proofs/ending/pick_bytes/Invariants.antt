-- After i stores the first i are chosen.
use lib.ListN.{get_or}
use Rattle.rework.specs.Rework.{end_byte}
use Rattle.rework.proofs.Listed.{Stored}
use Rattle.rework.proofs.ending.pick_bytes.Given as goal

abbrev pub invariant-loop-i : goal.invariant-loop-i
invariant-loop-i l = Stored 128 (λ k. end_byte l.set k (get_or l.new k 0) (get_or l.initial.bytes k 0)) l.initial.bytes l.i l.bytes
