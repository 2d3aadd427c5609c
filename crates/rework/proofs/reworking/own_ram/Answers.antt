-- As many bytes as RAM has.
use borrow.Author.Rules.{rules}
use mathlib.Core.Path.{sym, ◌∙◌}
use Rattle.numbers.proofs.Parts.{copied_whole}
use Rattle.rework.proofs.reworking.own_ram.Goals as goal

pub returns : goal.returns
returns c = λ l. c.copy.ensures ∙ copied_whole _ _ (search rules ∙ sym l)
