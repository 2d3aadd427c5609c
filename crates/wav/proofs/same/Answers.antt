-- What is left from a place on is the same where the whole is.
use borrow.Author.Rules.{rules}
use mathlib.Core.Path.{◌≡◌, refl, sym, ◌∙◌}
use Prim.Native.Nat.{◌<◌}
use native.Mathlib.Omega.{arith}
use lib.ListN.{length, drop_of_length-le}
use borrow.Author.Tests.{ne_eqb, eq-eqb}
use Rattle.wav.specs.Wav.{same_bytes}
use Rattle.wav.proofs.Rows.{same_from}
use Rattle.wav.proofs.same.Goals as goal

pub loop-at-init : goal.loop-at-init
loop-at-init c = refl

pub returns-then-front-at : goal.returns-then-front-at
returns-then-front-at c = let a = c.args in
    let l = c.loop-at in
    let t = c.loop-at-test.true in
    let s : length a.header.now ≡ 44 = search rules in
    let h : l.at < length a.front.now = omega (arith, c.requires) in
    let k : l.at < length a.header.now = omega arith in
    sym (sym l.invariant ∙ same_from a.front.now a.header.now l.at h k ∙ rw (ne_eqb _ _ c.if-front-at.true))

pub loop-at-preserved : goal.loop-at-preserved
loop-at-preserved c = let a = c.args in
    let l = c.loop-at in
    let t = c.loop-at-test.true in
    let s : length a.header.now ≡ 44 = search rules in
    let h : l.at < length a.front.now = omega (arith, c.requires) in
    let k : l.at < length a.header.now = omega arith in
    sym (sym l.invariant ∙ same_from a.front.now a.header.now l.at h k ∙ rw (eq-eqb _ _ c.if-front-at.false))

pub returns : goal.returns
unfolding same_bytes
returns c = let a = c.args in
    let l = c.loop-at in
    let s : length a.header.now ≡ 44 = search rules in
    sym (sym l.invariant ∙ rw (drop_of_length-le a.front.now {i = l.at} (omega (arith, c.requires)), drop_of_length-le a.header.now {i = l.at} (omega arith)))
