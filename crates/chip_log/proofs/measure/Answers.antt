-- What is left from each place gives the whole answer. The measure is the bytes that are left.
use Rattle.std.proofs.Common.{◌≡◌, ◌+◌, ◌<◌, Err, sym, ◌∙◌, rules, arith}
use borrow.Author.Tests.{le-ltb, lt-ltb}
use Rattle.chip_log.specs.Log.{On, Off, next_of}
use Rattle.chip_log.specs.Measure.{measure_of, ticks_in}
use Rattle.refusal.specs.Refusal.{number}
use Rattle.chip_log.proofs.Turn.{here_first, stop, over, turn, refused_at}
use Rattle.chip_log.proofs.measure.Goals as goal

pub returns-then-log-gt-LOG_MOST : goal.returns-then-log-gt-LOG_MOST
unfolding measure_of
returns-then-log-gt-LOG_MOST c = rw (lt-ltb _ _ c.if-log-gt-LOG_MOST.true)

pub loop-found-init : goal.loop-found-init
loop-found-init c = here_first _

pub returns-in_err-found : goal.returns-in_err-found
unfolding measure_of
returns-in_err-found c =
    let e : c.from_residual.result ≡ Err c.in_err-found.field-0.0 = search rules in
    let n : next_of c.read.result ≡ Off (number c.in_err-found.field-0.0) = rw c.in_err-found.was in
    rw (e, le-ltb _ _ c.if-log-gt-LOG_MOST.false) (sym (refused_at _ _ _) ∙ stop c.loop-found.invariant c.read.ensures.0 n)

pub returns-then-ticks-gt-TICKS_MOST : goal.returns-then-ticks-gt-TICKS_MOST
unfolding measure_of
returns-then-ticks-gt-TICKS_MOST c =
    let n : next_of c.read.result ≡ On c.in-Some.found c.in-Some.after = rw (c.in_ok-found.was, c.in-Some.is) in
    let h : 32000 < c.loop-found.ticks + ticks_in c.in-Some.found = omega (arith, c.if-ticks-gt-TICKS_MOST.true, c.ticks_of-ticks.ensures.0) in
    rw (le-ltb _ _ c.if-log-gt-LOG_MOST.false) (over c.loop-found.invariant c.read.ensures.0 n h)

pub loop-found-preserved : goal.loop-found-preserved
loop-found-preserved c =
    let n : next_of c.read.result ≡ On c.in-Some.found c.in-Some.after = rw (c.in_ok-found.was, c.in-Some.is) in
    (turn c.loop-found.invariant c.read.ensures.0 n c.read.ensures.1 c.ticks_of-ticks.ensures.0 c.readings_of-readings.ensures.0 c.readings_of-readings.ensures.1 c.if-ticks-gt-TICKS_MOST.false).1

pub returns : goal.returns
unfolding measure_of
returns c =
    let n : next_of c.read.result ≡ Off 0 = rw (c.in_ok-found.was, c.in_default.is) in
    rw (le-ltb _ _ c.if-log-gt-LOG_MOST.false) (stop c.loop-found.invariant c.read.ensures.0 n)
