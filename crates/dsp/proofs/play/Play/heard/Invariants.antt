-- What is left to hear from here gives the whole.
use Prim.Native.Nat.{◌≤◌, ◌-◌}
use Rattle.dsp.proofs.Plays.{heard_to, Hearing}
use Rattle.dsp.proofs.play.Play.heard.Given as goal

abbrev pub invariant-loop-i : goal.invariant-loop-i
invariant-loop-i l = (l.i ≤ l.end) × Hearing l.samples l.n l.self (l.end - l.i) (heard_to l.self l.i l.a l.b l.c l.d)
