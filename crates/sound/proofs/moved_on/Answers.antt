-- Each element lands in the new array as it is: the seven behind the first, and the new one.
use mathlib.Core.List.{List, [], ◌∷◌, ◌++◌}
use mathlib.Core.Path.{◌≡◌, refl, sym, ap, ◌∙◌}
use lib.IntN.{ℤ, pos}
use mir.Syntax.{w16}
use Rattle.numbers.specs.Listed.{listed}
use Rattle.numbers.specs.Signed.{◌>>◌}
use Rattle.numbers.proofs.Lists.{dropped_listed}
use Rattle.numbers.proofs.Range.{reads, q_par, q_shr, q_read, landed}
use Rattle.sound.proofs.moved_on.Goals as goal

infixr 5 ◌and◌
◌and◌ : {x y : ℤ} {xs ys : List ℤ} → x ≡ y → xs ≡ ys → (x ∷ xs) ≡ (y ∷ ys)
(p and q) = λ i. p i ∷ q i

pub returns : goal.returns
unfolding listed
returns c = let s = c in
    (landed w16 c.result-1.given and landed w16 c.result-2-1.given
    and landed w16 c.result-3-1.given and landed w16 c.result-4-1.given
    and landed w16 c.result-5-1.given and landed w16 c.result-6-1.given and landed w16 c.result-7-1.given
    and reads (q_read w16 (q_shr 2 (q_read w16 (q_par w16 s.args.x s.ranges.x)))) tt and refl)
    ∙ ap (λ (l : List ℤ). l ++ ((s.args.x >> 1) ∷ [])) (sym (dropped_listed (pos 0) s.args.h 7 s.well_formed.0.1.0.1))
