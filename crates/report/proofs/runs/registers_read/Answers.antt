-- What is left of the log gives the registers that are still to be listed. The measure is the bytes of the log that are left.
use Rattle.std.proofs.Common.{◌≡◌, rules, arith}
use Rattle.refusal.specs.Refusal.{number}
use Rattle.chip_log.specs.Log.{On, Off, next_of}
use Rattle.report.proofs.Listing.{first, ended, passed, others}
use Rattle.report.proofs.runs.registers_read.Goals as goal

pub loop-put-init : goal.loop-put-init
loop-put-init c = first _ _

pub returns-in_default : goal.returns-in_default
returns-in_default c = let n : next_of c.read.result ≡ Off 0 = search rules in ended c.loop-put.invariant c.read.ensures.0 n

pub returns-in_default-2 : goal.returns-in_default-2
returns-in_default-2 c = let n : next_of c.read.result ≡ Off (number c.in_default.field-0) = rw c.in_default.is in ended c.loop-put.invariant c.read.ensures.0 n

pub loop-put-preserved : goal.loop-put-preserved
loop-put-preserved c =
    let n : next_of c.read.result ≡ On c.in-Ok-Some.found c.in-Ok-Some.behind = rw (c.in-Ok-Some.is, c.in-Ok-Some.field-0-is) in
    passed c.loop-put.invariant c.read.ensures.0 n c.read.ensures.1 (others _ (λ r e. grind arith))
