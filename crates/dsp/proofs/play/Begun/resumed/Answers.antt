-- By the choice: what is heard is heard of any play with these parts.
use borrow.Author.Rules.{rules}
use mathlib.Core.Bool.{◌||◌}
use mathlib.Core.Path.{◌∙◌, ap, sym}
use Rattle.dsp.specs.Inside.{pushed_on}
use Rattle.dsp.proofs.Plays.{history_read, same-play, goes_on_taking, drops}
use Rattle.dsp.proofs.play.Begun.resumed.Goals as goal

pub returns-then-first-on : goal.returns-then-first-on
returns-then-first-on c q on k t h v e f endx = let a = c.args in
    let p = a.self.play in
    let g = history_read p (search rules) in
    c.heard.ensures v e f endx
    ∙ ap (pushed_on a.self.rest) (same-play v e f _ endx _ q (sym on) (sym k) (sym t) (g ∙ sym h))
    ∙ goes_on_taking a.first a.self.rest _ (ap (λ b. a.first || b) on ∙ c.if-first-on.true)

pub returns-else-first-on : goal.returns-else-first-on
returns-else-first-on c q on k t h v e f endx = let a = c.args in
    let p = a.self.play in
    let g = history_read p (search rules) in
    same-play v e f _ endx _ q (sym on) (sym k) (sym t) (g ∙ sym h)
    ∙ drops a.first a.self.rest _ (ap (λ b. a.first || b) on ∙ c.if-first-on.false)
