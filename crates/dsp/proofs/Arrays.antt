-- What a closure that maps an array may be asked at each element, and an array that is filled by the index.
use mathlib.Core.List.{List, [], ◌∷◌, map}
use mathlib.Core.Path.{◌≡◌, ◌∙◌, ap, refl, subst, sym}
use Prim.Native.Nat.{ℕ, zero, suc, ◌+◌, ◌<◌, ◌≤◌}
use native.Mathlib.Numerals.{add-one}
use native.Mathlib.Omega.{arith}
use native.Mathlib.Decide.{ℕ_discrete}
use lib.ListN.{get_or, length, set}
use lib.Seq.{ext_get_or}
use denote.Param.Members.{Mut, Called}
use Rattle.std.specs.Array.{list_steps, IsFromFnResult, IsFromFnResultFrom}
use Rattle.std.specs.Iterator.{Yields, CallableAtEachTurn}
use Rattle.std.specs.List.{FoldsTo}
use Rattle.std.specs.Prelude.{Some}
use Rattle.numbers.specs.Listed.{listed, turns}
use Rattle.numbers.proofs.Turns.{mapped_turns}
use Rattle.dsp.proofs.Apart.{listed-count, listed_at}

module _ {A P : Type 0} (R : P → A → P → Type 0) (Q : P → A → Type 0) (d : A) (p : P) (stays : (x : A) (q : P) → R p x q → q ≡ p) where
  each_asked : (zs xs t u : List A) (q : P) (x : A) → ((i : ℕ) → Q p (get_or xs i d)) → Yields list_steps xs zs t → FoldsTo R p zs q → list_steps t (Some x) u → Q q x
  each_asked [] xs t u q x h y c e = subst (λ (k : P). Q k x) c (rw (y ∙ e) at (h 0))
  each_asked (z ∷ zs) xs t u q x h y c e =
      each_asked zs y.0 t u q x (λ i. rw y.1 at (h (suc i))) y.2 (subst (λ (k : P). FoldsTo R k zs q) (stays z c.0 c.1) c.2) e

-- d: what stands past the end
pub callable : {A P : Type 0} {R : P → A → P → Type 0} {Q : P → A → Type 0} (d : A) (p : P) (xs : List A)
    → ((x : A) (q : P) → R p x q → q ≡ p) → ((i : ℕ) → Q p (get_or xs i d)) → CallableAtEachTurn list_steps R Q xs p
callable {R = R} {Q = Q} d p xs stays h = record { at = λ zs t q x u y c e. each_asked R Q d p stays zs xs t u q x h y c e }

-- an array that `from_fn` makes: where each call gives f of its index and leaves the closure as it was, it is f 0, f 1, .. f (n - 1)
module _ {F B : Type 0} (g : Mut F (ℕ × Unit {0}) B) (p : F) (ys : List B) (f : ℕ → B) (gives : (i : ℕ) (y : B) (q : F) → Called g p (i, tt) y q → (q ≡ p) × (y ≡ f i)) where
  each_filled : (n i : ℕ) → IsFromFnResultFrom g p ys i n → (k : ℕ) (d : B) → i ≤ k → k < i + n → get_or ys k d ≡ f k
  each_filled zero i r k d l h = absurd (omega arith)
  each_filled (suc n) i r k d l h =
      let e = gives i r.1 r.0 r.3 in
      elim (ℕ_discrete k i) [
        | yes y ↦ rw y (r.2.1 d ∙ e.1)
        | no y ↦ each_filled n (i + 1) (subst (λ (q : F). IsFromFnResultFrom g q ys (i + 1) n) e.0 r.4) k d (omega arith) (omega arith)
      ]

pub filled : {F B : Type 0} {g : Mut F (ℕ × Unit {0}) B} {p : F} {ys : List B} {n : ℕ} (f : ℕ → B)
    → ((i : ℕ) (y : B) (q : F) → Called g p (i, tt) y q → (q ≡ p) × (y ≡ f i)) → IsFromFnResult g p ys n → ys ≡ listed f n
filled {g = g} {p = p} {ys = ys} {n = n} f gives m =
    let c = listed-count f n in
    ext_get_or (f 0) ys (listed f n) (m.long ∙ sym c) (λ (k : ℕ) (l : k < length ys). each_filled g p ys f gives n 0 m.each k (f 0) (omega arith) (omega (arith, m.long)) ∙ sym (listed_at f (f 0) n k (omega (arith, m.long))))

-- ---- an array that a loop changes in place, element by element

-- d: what stands past the end, where no turn comes
abbrev change_at : {A : Type 0} → A → (A → A) → ℕ → List A → List A
change_at d f n xs = set xs n (f (get_or xs n d))

-- so far: n turns, each of which stores what f makes of the element that stands there
pub record Changed {A : Type 0} (d : A) (f : A → A) (from now : List A) (n : ℕ) : Type 0 where
  pub within : n ≤ length from
  pub is : now ≡ turns (change_at d f) n from

pub none_changed : {A : Type 0} {d : A} {f : A → A} {from : List A} → Changed d f from from 0
unfolding turns
none_changed = record { within = omega arith; is = refl }

module _ {A : Type 0} {d : A} {f : A → A} {from now : List A} {n : ℕ} (m : Changed d f from now n) where
  pub one_changed : {v : A} → n < length from → v ≡ f (get_or now n d) → Changed d f from (set now n v) (n + 1)
  unfolding turns
  one_changed l e = record { within = omega arith; is = rw (e, add-one n, turns, ← m.is) }

  pub all_changed : n ≡ length from → now ≡ map f from
  all_changed e = m.is ∙ ap (λ (k : ℕ). turns (change_at d f) k from) e ∙ mapped_turns d f from
