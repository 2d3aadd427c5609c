-- Lists by index, folds over numbers and over lists.
use Rattle.std.specs.Prelude.{ℕ, zero, suc, Bool, true, ◌&&◌, List, [], ◌∷◌, ◌++◌, drop}

-- f 0, f 1, .. f (n - 1)
unfoldable pub listed : {A : Type 0} → (ℕ → A) → ℕ → List A
listed f zero = []
listed f (suc n) = listed f n ++ (f n ∷ [])

-- f at 0, 1, .. n - 1, in that order
unfoldable pub turns : {A : Type 0} → (ℕ → A → A) → ℕ → A → A
turns f zero a = a
turns f (suc n) a = f n (turns f n a)

-- every element passes
unfoldable pub all : {A : Type 0} → (A → Bool) → List A → Bool
all test [] = true
all test (x ∷ xs) = test x && all test xs

-- the elements taken in one after another, from the front
unfoldable pub folded : {A B : Type 0} → (B → A → B) → B → List A → B
folded f b [] = b
folded f b (x ∷ xs) = folded f (f b x) xs

-- a history moved on: the oldest, at the front, is dropped and the newest added
abbrev pub moved_on : {A : Type 0} → List A → A → List A
moved_on h x = drop 1 h ++ (x ∷ [])
