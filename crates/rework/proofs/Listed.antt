-- A list by index: its elements, and how an array comes to it, stored index after index.
use mathlib.Core.List.{List, ◌++◌, append-nil}
use mathlib.Core.Path.{◌≡◌, refl, sym, ◌∙◌}
use Prim.Native.Nat.{ℕ, suc, ◌+◌, ◌≤◌, ◌<◌}
use native.Mathlib.Omega.{arith}
use native.Mathlib.Numerals.{add-one}
use lib.ListN.{get_or, set, drop, length, length-set, drop_of_length-le}
use Rattle.std.proofs.lemmas.List.{set-get_or}
use lib.Seq.{drop-cons, append_snoc, set_at, get_or_at, ext_get_or}
use Rattle.numbers.specs.Listed.{listed}
use Rattle.dsp.proofs.Apart.{listed-count, listed_at}

-- a list whose elements are f's
pub listed-is : {A : Type 0} (d : A) (f : ℕ → A) (n : ℕ) (zs : List A) → length zs ≡ n → ((i : ℕ) → i < n → f i ≡ get_or zs i d) → listed f n ≡ zs
listed-is d f n zs l h =
    let e = listed-count f n in
    ext_get_or d (listed f n) zs (e ∙ sym l) (λ i k. let m : i < n = omega (arith, e, k) in listed_at f d n i m ∙ h i m)

-- after n stores of `size`: f 0 .. f (n - 1) in front, the old elements behind
pub record Stored {A : Type 0} (size : ℕ) (f : ℕ → A) (old : List A) (n : ℕ) (xs : List A) : Type 0 where
  pub most : n ≤ size
  pub whole : length old ≡ size
  pub sized : length xs ≡ size
  pub is : xs ≡ listed f n ++ drop n old

pub stored_none : {A : Type 0} {size : ℕ} {f : ℕ → A} {old : List A} → length old ≡ size → Stored size f old 0 old
unfolding listed
stored_none e = record { most = omega arith; whole = e; sized = e; is = refl }

module _ {A : Type 0} {size : ℕ} {f : ℕ → A} {old : List A} {n : ℕ} {xs : List A} (s : Stored size f old n xs) where
  pub stored_more : {v : A} → n < size → v ≡ f n → Stored size f old (n + 1) (set xs n v)
  unfolding listed
  stored_more {v} l e =
      record {
        most = omega arith;
        whole = s.whole;
        sized = length-set xs n v ∙ s.sized;
        is =
            rw (s.is, e, add-one, drop-cons old n (f n) (rw s.whole l))
            (set_at (listed f n) (get_or old n (f n)) (drop (suc n) old) (f n) n (listed-count f n) ∙ sym (append_snoc (listed f n) (f n) (drop (suc n) old)));
      }

  -- what is read before it is stored
  pub stored_at : (d : A) → n < size → get_or xs n d ≡ get_or old n d
  stored_at d l = rw (s.is, drop-cons old n d (rw s.whole l)) (get_or_at (listed f n) (get_or old n d) (drop (suc n) old) d n (listed-count f n))

  -- what is there is what is asked for, and stays
  pub stored_same : (d : A) → n < size → get_or old n d ≡ f n → Stored size f old (n + 1) xs
  stored_same d l e = let m : Stored size f old (n + 1) (set xs n (get_or xs n d)) = stored_more l (stored_at d l ∙ e) in rw (set-get_or xs n d) at m

  pub stored_all : size ≤ n → xs ≡ listed f size
  stored_all l =
      let e : n ≡ size = omega (arith, s.most) in
      rw (s.is, drop_of_length-le old {i = n} (rw s.whole l), e) (append-nil (listed f size))
