-- A log without the named voices' own writes, from place to place; and what the test of two such logs means.
use Rattle.std.proofs.Common.{Option, Some, None, Ok}
use Rattle.std.specs.Option.{is_some}
use mathlib.Core.Bool.{Bool, true, false, not, not-not}
use mathlib.Core.List.{List, [], ◌∷◌}
use mathlib.Core.Path.{◌≡◌, refl, sym, ap, ◌∙◌}
use Prim.Native.Nat.{ℕ}
use Rattle.chip_log.specs.Log.{read_at, records_from}
use Rattle.chip_log.specs.declared.Record.{Record}
use Rattle.chip_log.specs.declared.Record.TheVariants.{Write, Ticks, Reading}
use Rattle.chip_log.specs.Log.{Next, On, Off, next_of}
use Rattle.chip_log.proofs.Places.{opened_at, closed_at}
use Rattle.chip_log.specs.contracts.RecordPartialEq.TheImpl as equal
use Rattle.rework.specs.Alike.{stays, without, same_record, same_records, Opens}

-- no record
pub closed : (s : ℕ) (log : List ℕ) (at : ℕ) {n : Next} {k : ℕ} → n ≡ read_at log at → n ≡ Off k → without s (records_from log at) ≡ []
unfolding without
closed s log at {n} {k} is e = ap (without s) (closed_at log at k (sym is ∙ e))

-- a record that stays, and one that does not
module _ (s : ℕ) (log : List ℕ) (at : ℕ) {n : Next} {r : Record} {behind : ℕ} {t : Bool} (is : n ≡ read_at log at) (on : n ≡ On r behind) (told : t ≡ stays s r) where
  pub staying : t ≡ true → without s (records_from log at) ≡ r ∷ without s (records_from log behind)
  unfolding without
  staying e = ap (without s) (opened_at log at behind r (sym is ∙ on)) ∙ rw (sym told ∙ e)

  pub passing : t ≡ false → without s (records_from log at) ≡ without s (records_from log behind)
  unfolding without
  passing e = ap (without s) (opened_at log at behind r (sym is ∙ on)) ∙ rw (sym told ∙ e)

-- whether nothing stays from a place on
pub none_left : (s : ℕ) (log : List ℕ) (at : ℕ) (o : Option (Record × ℕ)) (b : Bool) → Opens s log at (next_of (Ok o)) → is_some o ≡ not b
    → b ≡ same_records [] (without s (records_from log at))
unfolding same_records
none_left s log at None true h e = rw h
none_left s log at None false h e = cc
none_left s log at (Some p) true h e = cc
none_left s log at (Some p) false h e = rw h.0

-- `==` of two records is the test of the definition
pub same_is : (a b : Record) → (equal.ghosts).eq a b ≡ same_record a b
unfolding same_record
same_is (Write r x) (Write q y) = refl
same_is (Write r x) (Ticks m) = refl
same_is (Write r x) (Reading q) = refl
same_is (Ticks n) (Write q y) = refl
same_is (Ticks n) (Ticks m) = refl
same_is (Ticks n) (Reading q) = refl
same_is (Reading r) (Write q y) = refl
same_is (Reading r) (Ticks m) = refl
same_is (Reading r) (Reading q) = refl

pub differ : (a b : Record) {r t : Bool} → r ≡ not ((equal.ghosts).eq a b) → r ≡ t → same_record a b ≡ not t
differ a b e k = sym (same_is a b) ∙ sym (not-not ((equal.ghosts).eq a b)) ∙ ap not (sym e ∙ k)
