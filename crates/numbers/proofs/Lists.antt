-- Lists by index: a list that is mapped, tested, or without its first element.
use Rattle.std.proofs.Common.{◌≡◌, ℕ, zero, suc, ◌<◌, ◌≤◌, Bool, true, false, ◌&&◌, List, [], ◌∷◌, map, length, get_or, take, drop, refl, arith, take_all, take-suc}
use mathlib.Core.Bool.{and-true, and_assoc}
use Rattle.numbers.specs.Listed.{listed, all}

-- two lists of one length, each mapped by f: what f keeps of two elements
pub map_both : {A : Type 0} (R : A → A → Type 0) (f : A → A) (d : A) → ((x y : A) → R x y → R (f x) (f y)) → (xs ys : List A) → length xs ≡ length ys
    → (j : ℕ) → R (get_or xs j d) (get_or ys j d) → R (get_or (map f xs) j d) (get_or (map f ys) j d)
map_both R f d k [] [] e j h = h
map_both R f d k [] (y ∷ ys) e j h = absurd (omega arith)
map_both R f d k (x ∷ xs) [] e j h = absurd (omega arith)
map_both R f d k (x ∷ xs) (y ∷ ys) e zero h = k x y h
map_both R f d k (x ∷ xs) (y ∷ ys) e (suc j) h = map_both R f d k xs ys (omega arith) j h

-- ---- every element passes

pub and_both : (a b : Bool) → (a && b) ≡ true → (a ≡ true) × (b ≡ true)
and_both true b h = (refl, h)
and_both false b h = (h, cc)

module _ {A : Type 0} (t : A → Bool) (d : A) where
  -- past the end stands d
  pub all-at : (xs : List A) → all t xs ≡ true → t d ≡ true → (n : ℕ) → t (get_or xs n d) ≡ true
  unfolding all
  all-at [] e z n = z
  all-at (x ∷ xs) e z zero = (and_both _ _ e).0
  all-at (x ∷ xs) e z (suc n) = all-at xs (and_both (t x) _ e).1 z n

  pub all_holds : (xs : List A) → ((n : ℕ) → n < length xs → t (get_or xs n d) ≡ true) → all t xs ≡ true
  unfolding all
  all_holds [] h = refl
  all_holds (x ∷ xs) h = rw (h 0 (omega arith)) (all_holds xs (λ n l. h (suc n) (omega arith)))

  -- one element more
  pub all_more : (xs : List A) (n : ℕ) → n < length xs → all t (take (suc n) xs) ≡ (all t (take n xs) && t (get_or xs n d))
  unfolding all
  all_more [] n l = absurd (omega arith)
  all_more (x ∷ xs) zero l = and-true (t x)
  all_more (x ∷ xs) (suc n) l = rw (all_more xs n (omega arith), and_assoc)

-- ---- a list as what stands in it

module _ {A : Type 0} (d : A) where
  listed-take : (xs : List A) (n : ℕ) → n ≤ length xs → listed (λ k. get_or xs k d) n ≡ take n xs
  unfolding listed
  listed-take xs zero l = refl
  listed-take xs (suc n) l = rw (listed-take xs n (omega arith), take-suc xs n d)

  pub dropped_listed : (h : List A) (n : ℕ) → length h ≡ suc n → drop 1 h ≡ listed (λ k. get_or h (suc k) d) n
  dropped_listed [] n e = absurd (omega arith)
  dropped_listed (x ∷ xs) n e = rw (listed-take xs n (omega arith), take_all n xs (omega arith))
