-- A test that is computed, and the fact that it decides: each implies the other.
use mathlib.Core.Bool.{Bool, true, false, ◌&&◌, ◌||◌, or-true}
use mathlib.Core.Logic.{◌⊎◌, inl, inr, ⊎_elim}
use mathlib.Core.Path.{◌≡◌}
use Prim.Native.Nat.{ℕ, ◌≤◌, ◌<◌}
use borrow.Author.Tests.{leb-true, ltb-true, eqb-true, le-leb, lt-ltb, eq-eqb}
use Rattle.numbers.specs.Choice.{◌≤?◌, ◌<?◌, ◌=?◌}
use Rattle.numbers.proofs.Lists.{and_both}

pub record Decides (b : Bool) (P : Type 0) : Type 0 where
  pub sound : b ≡ true → P
  pub holds : P → b ≡ true

pub le : (m n : ℕ) → Decides (m ≤? n) (m ≤ n)
le m n = record { sound = leb-true m n; holds = le-leb m n }

pub lt : (m n : ℕ) → Decides (m <? n) (m < n)
lt m n = record { sound = ltb-true m n; holds = lt-ltb m n }

pub eq : (m n : ℕ) → Decides (m =? n) (m ≡ n)
eq m n = record { sound = eqb-true m n; holds = eq-eqb m n }

-- of facts that imply each other
pub restated : {b : Bool} {P Q : Type 0} → Decides b P → (P → Q) → (Q → P) → Decides b Q
restated t f g = record { sound = λ e. f (t.sound e); holds = λ q. t.holds (g q) }

either : (a b : Bool) → (a || b) ≡ true → (a ≡ true) ⊎ (b ≡ true)
either true b h = inl h
either false b h = inr h

infixl 35 ◌and◌
pub ◌and◌ : {a b : Bool} {P Q : Type 0} → Decides a P → Decides b Q → Decides (a && b) (P × Q)
◌and◌ {a} {b} s t =
    record {
      sound = λ h. (s.sound (and_both a b h).0, t.sound (and_both a b h).1);
      holds = λ h. rw (s.holds h.0) (t.holds h.1);
    }

infixl 30 ◌otherwise◌
pub ◌otherwise◌ : {a b : Bool} {P Q : Type 0} → Decides a P → Decides b Q → Decides (a || b) (P ⊎ Q)
◌otherwise◌ {a} {b} s t =
    record {
      sound = λ h. ⊎_elim (λ e. inl (s.sound e)) (λ e. inr (t.sound e)) (either a b h);
      holds = λ h. ⊎_elim (λ p. rw (s.holds p)) (λ q. rw (t.holds q) (or-true a)) h;
    }
