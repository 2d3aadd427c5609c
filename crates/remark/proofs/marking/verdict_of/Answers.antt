-- Equal rows have nothing to be marked again, and others have.
use Rattle.std.proofs.Common.{rules}
use Rattle.remark.proofs.Laws.{equal, unequal}
use Rattle.remark.proofs.marking.verdict_of.Goals as goal

pub returns-then-eq : goal.returns-then-eq
returns-then-eq c = equal _ _ (search rules)

pub returns : goal.returns
returns c = unequal _ _ (λ e. search rules)
