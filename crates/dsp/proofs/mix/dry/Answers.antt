-- After so many voices the sums are as many turns of the definition.
use borrow.Author.Rules.{rules}
use mathlib.Core.Path.{refl, ◌∙◌}
use native.Mathlib.Omega.{arith}
use native.Mathlib.Numerals.{add-one}
use mir.Syntax.{w16}
use Rattle.numbers.proofs.Range.{landed}
use Rattle.numbers.specs.Listed.{turns}
use Rattle.dsp.proofs.Outputs.{dry_whole}
use Rattle.dsp.proofs.mix.dry.Goals as goal

pub loop-v-init : goal.loop-v-init
unfolding turns
loop-v-init c = refl

pub scaled_output-out-requires : goal.scaled_output-out-requires
scaled_output-out-requires c = c.requires c.loop-v.v-index

pub loop-v-preserved : goal.loop-v-preserved
unfolding turns
loop-v-preserved c = let o = c.scaled_output-out in
    rw (c.with_voice-s.ensures, add-one, turns, ← c.loop-v.invariant, landed w16 o.type_inv, o.ensures) (search rules)

pub returns : goal.returns
returns c = c.loop-v.invariant ∙ dry_whole c.args.voices _ (omega arith)
