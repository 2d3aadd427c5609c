-- What turns and stores into a list keep, and the folds over a list as turns.
use Rattle.std.proofs.Common.{◌≡◌, ℕ, zero, suc, ◌<◌, ◌≤◌, List, [], ◌∷◌, map, length, get_or, set, refl, ap, arith, get_or-set_other, get_or-set_same}
use Rattle.numbers.specs.Listed.{turns, folded}

-- of the first k turns, what each of them keeps
pub turns_keep : {A : Type 0} (P : A → Type 0) (f : ℕ → A → A) (k : ℕ) → ((n : ℕ) (a : A) → n < k → P a → P (f n a))
    → (n : ℕ) (a : A) → n ≤ k → P a → P (turns f n a)
unfolding turns
turns_keep P f k h zero a l p = p
turns_keep P f k h (suc n) a l p = h n _ l (turns_keep P f k h n a (omega arith) p)

-- turns that are the same for each number below k
pub turns_same : {A : Type 0} (f g : ℕ → A → A) (k : ℕ) → ((n : ℕ) (a : A) → n < k → f n a ≡ g n a) → (n : ℕ) (a : A) → n ≤ k → turns f n a ≡ turns g n a
unfolding turns
turns_same f g k h zero a l = refl
turns_same f g k h (suc n) a l = rw (turns_same f g k h n a (omega arith)) (h n _ l)

module _ {A : Type 0} where
  -- of the element at m, what it and the new one have in common; past the end nothing is stored
  pub set_keeps : (P : A → Type 0) (d : A) (xs : List A) (n : ℕ) (w : A) → P w → (m : ℕ) → P (get_or xs m d) → P (get_or (set xs n w) m d)
  set_keeps P d [] n w p m h = h
  set_keeps P d (x ∷ xs) zero w p zero h = p
  set_keeps P d (x ∷ xs) zero w p (suc m) h = h
  set_keeps P d (x ∷ xs) (suc n) w p zero h = h
  set_keeps P d (x ∷ xs) (suc n) w p (suc m) h = set_keeps P d xs n w p m h

  pub set_here : (d : A) (xs : List A) (n : ℕ) (w : A) → n < length xs → get_or (set xs n w) n d ≡ w
  set_here d xs n w l = get_or-set_same xs n w d l

  pub set_there : (d : A) (xs : List A) (n m : ℕ) (w : A) → m < n → get_or (set xs n w) m d ≡ get_or xs m d
  set_there d xs n m w l = get_or-set_other xs n m w d (λ e. omega arith)

  -- ---- folds over a list

  -- the first turn apart
  pub turns_front : (f : ℕ → A → A) (n : ℕ) (a : A) → turns f (suc n) a ≡ turns (λ k. f (suc k)) n (f 0 a)
  unfolding turns
  turns_front f zero a = refl
  turns_front f (suc n) a = ap (f (suc n)) (turns_front f n a)

-- turns of what is made of a are made of the turns of a
pub turns-through : {A B : Type 0} (make : A → B) (f : ℕ → A → A) (g : ℕ → B → B) → ((n : ℕ) (a : A) → g n (make a) ≡ make (f n a))
    → (n : ℕ) (a : A) → turns g n (make a) ≡ make (turns f n a)
unfolding turns
turns-through make f g h zero a = refl
turns-through make f g h (suc n) a = rw (turns-through make f g h n a) (h n _)

pub folded_turns : {A B : Type 0} (d : A) (f : B → A → B) (b : B) (xs : List A) → folded f b xs ≡ turns (λ n s. f s (get_or xs n d)) (length xs) b
unfolding turns folded
folded_turns d f b [] = refl
folded_turns d f b (x ∷ xs) = rw (turns_front (λ n s. f s (get_or (x ∷ xs) n d))) (folded_turns d f (f b x) xs)

-- each element stored in its turn
pub mapped_turns : {A : Type 0} (d : A) (f : A → A) (xs : List A) → turns (λ n ys. set ys n (f (get_or ys n d))) (length xs) xs ≡ map f xs
unfolding turns
mapped_turns d f [] = refl
mapped_turns {A} d f (x ∷ xs) =
    let g : ℕ → List A → List A = (λ n ys. set ys n (f (get_or ys n d))) in
    rw (turns_front g (length xs) (x ∷ xs), turns-through (λ (ys : List A). f x ∷ ys) g (λ n. g (suc n)) (λ n ys. refl) (length xs) xs, mapped_turns d f xs)
