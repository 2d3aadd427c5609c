-- By the mode.
use borrow.Author.Tests.{lt-ltb, le-ltb, ne_eqb}
use Rattle.sound.specs.Envelope.{gained}
use Rattle.sound.proofs.adsr.gained.Goals as goal

pub returns-in-0 : goal.returns-in-0
unfolding gained
returns-in-0 c = rw c.in-0.is c.saturating_sub.ensures

pub returns-in-1 : goal.returns-in-1
unfolding gained
returns-in-1 c = rw c.in-1.is c.lowered.ensures

pub returns-in-2 : goal.returns-in-2
unfolding gained
returns-in-2 c = rw c.in-2.is c.raised.ensures

pub returns-then-level-lt1536 : goal.returns-then-level-lt1536
unfolding gained
returns-then-level-lt1536 c = let r = c.in_default.in_default-own.rest in
    rw (ne_eqb _ _ r.0.0.1, ne_eqb _ _ r.0.1, ne_eqb _ _ r.1, lt-ltb _ _ c.if-level-lt1536.true) c.raised-then-level-lt1536.ensures

pub returns-else-level-lt1536 : goal.returns-else-level-lt1536
unfolding gained
returns-else-level-lt1536 c = let r = c.in_default.in_default-own.rest in
    rw (ne_eqb _ _ r.0.0.1, ne_eqb _ _ r.0.1, ne_eqb _ _ r.1, le-ltb _ _ c.if-level-lt1536.false) c.raised-else-level-lt1536.ensures
