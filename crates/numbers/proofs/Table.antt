-- Rules of a table of signed numbers: one test, computed over the whole table, gives the rule at each entry.
use Rattle.std.proofs.Common.{◌≡◌, ℕ, zero, suc, ◌<◌, Bool, true, ◌&&◌, T, leb, List, [], ◌∷◌, length, get_or, ℤ, pos, ◌≤ℤ◌, zero-le, le_of_suc-le-suc, not-suc-le-zero, le-leb, leb-true}
use lib.Dec.{not_T}
use lib.Signed.{mag, le_z, lt_z, le_z_yes, lt_z_yes, lt_z_no, <ℤ-≤ℤ_trans, clash_ℤ}
use Rattle.numbers.specs.Listed.{all}
use Rattle.numbers.proofs.Lists.{all-at}
use Rattle.numbers.proofs.Range.{Within, and_l, and_r}

abbrev pub small : ℕ → ℤ → Bool
small m x = leb (mag x) m

-- past the end stands 0
pub table_within : (m : ℕ) (xs : List ℤ) → all (small m) xs ≡ true → (i : ℕ) → Within m (get_or xs i (pos 0))
table_within m xs e i = record { le = leb-true (mag (get_or xs i (pos 0))) m (all-at (small m) (pos 0) xs e (le-leb 0 m zero-le) i) }

-- ---- the table never decreases

abbrev pub from : ℤ → List ℤ → Bool
from x [] = true
from x (y ∷ ys) = le_z x y

abbrev pub ordered : List ℤ → Bool
ordered [] = true
ordered (x ∷ xs) = from x xs && ordered xs

pub order_at : (xs : List ℤ) → T (ordered xs) → (i : ℕ) → suc i < length xs → get_or xs i (pos 0) ≤ℤ get_or xs (suc i) (pos 0)
order_at [] t i h = absurd (not-suc-le-zero h)
order_at (x ∷ []) t i h = absurd (not-suc-le-zero (le_of_suc-le-suc h))
order_at (x ∷ y ∷ ys) t zero h = le_z_yes (and_l (le_z x y) (ordered (y ∷ ys)) t)
order_at (x ∷ y ∷ ys) t (suc i) h = order_at (y ∷ ys) (and_r (le_z x y) (ordered (y ∷ ys)) t) i (le_of_suc-le-suc h)

pub ≤ℤ_trans : {a b c : ℤ} → a ≤ℤ b → b ≤ℤ c → a ≤ℤ c
≤ℤ_trans {a} {c = c} p q = lt_z_no (not_T (lt_z c a) (λ t. clash_ℤ (<ℤ-≤ℤ_trans (lt_z_yes t) p) q))
