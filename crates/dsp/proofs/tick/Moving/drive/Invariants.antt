-- After v lanes the arrays stand for the definition's round after v turns; after i ticks they stand, with parts, samples and rows, for its bench
-- after i ticks. A turn's ways join behind the poll, behind the block change, and behind the step.
use mathlib.Core.List.{[]}
use Prim.Native.Nat.{◌*◌, ◌≤◌}
use Rattle.dsp.specs.Inside.{as_shared, as_sums}
use Rattle.dsp.proofs.Drives.{round_of, Lanes, bench_at, Driven}
use Rattle.dsp.proofs.Apart.{arrays, Sized, voices_from, parts_from}
use Rattle.dsp.proofs.tick.Moving.drive.Given as goal

abbrev pub invariant-loop-v : goal.invariant-loop-v
invariant-loop-v l =
    (l.v ≤ 8) × Sized (arrays l.envelopes l.plays l.feeds l.currents l.store)
    × Lanes l.work.voices (as_shared l.c) l.ram l.initial.sheet (l.i * 36) (round_of (voices_from l.dials (arrays l.initial.envelopes l.initial.plays l.initial.feeds l.initial.currents l.initial.store)) l.initial.delays l.initial.bytes (as_sums l.initial.acc) []) l.v l.sheet
    (voices_from l.dials (arrays l.envelopes l.plays l.feeds l.currents l.store)) l.delays l.bytes (as_sums l.acc)

abbrev pub invariant-loop-i : goal.invariant-loop-i
invariant-loop-i l =
    (l.i ≤ l.n) × Sized (arrays l.envelopes l.plays l.feeds l.currents l.store)
    × Driven l.work l.initial.pcm l.initial.sheet (bench_at (parts_from l.dials l.taps (arrays l.initial.envelopes l.initial.plays l.initial.feeds l.initial.currents l.initial.store) l.initial.delays l.initial.bytes l.initial.f) l.initial.ram [] [] l.initial.sheet) l.i l.pcm l.sheet
    (parts_from l.dials l.taps (arrays l.envelopes l.plays l.feeds l.currents l.store) l.delays l.bytes l.f) l.ram
