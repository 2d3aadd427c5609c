-- The record is taken apart into arrays that stand for it (Made); each record of the log moves them on (Logs); where the log ends they are made
-- into a record again.
use Prim.Native.Nat.{◌-◌}
use lib.ListN.{length}
use Rattle.dsp.specs.Play.{starting}
use Rattle.dsp.proofs.Apart.{arrays}
use Rattle.dsp.proofs.Logs.{Between}
use Rattle.dsp.proofs.run.play_all.Given as goal

abbrev pub invariant-loop-found : goal.invariant-loop-found
invariant-loop-found l =
    Between l.work l.log l.initial.pcm l.initial.sheet l.initial.readings (starting l.start l.initial.ram l.initial.sheet) l.dials l.taps (arrays l.envelopes l.plays l.feeds l.currents l.store) l.delays l.bytes l.f l.ram l.pcm l.sheet l.readings l.ticks l.said l.at

abbrev pub decreases-loop-found : goal.decreases-loop-found
decreases-loop-found l =
    length l.log - l.at
