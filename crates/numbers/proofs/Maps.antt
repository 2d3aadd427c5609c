-- An array that is mapped by a closure: where each call gives what f makes of its element, it is the list mapped by f.
use Rattle.std.proofs.Common.{◌≡◌, ℕ, suc, ◌<◌, List, [], ◌∷◌, map, length, slice_index_or, refl, arith}
use Rattle.std.specs.Array.{IsMapOf}
use denote.Param.Members.{Mut, Called}

-- two lists of one length that f ties to one another place by place
pub tied : {A B : Type 0} (f : A → B) (d : A) (e : B) (xs : List A) (ys : List B) → length ys ≡ length xs
    → ((i : ℕ) → i < length xs → slice_index_or ys i e ≡ f (slice_index_or xs i d)) → ys ≡ map f xs
tied f d e [] [] l h = refl
tied f d e [] (y ∷ ys) l h = absurd (omega arith)
tied f d e (x ∷ xs) [] l h = absurd (omega arith)
tied f d e (x ∷ xs) (y ∷ ys) l h = rw (h 0 (omega arith), tied f d e xs ys (omega arith) (λ i k. h (suc i) (omega arith)))

pub mapped : {F A B : Type 0} {g : Mut F (A × Unit {0}) B} {p : F} {xs : List A} {ys : List B} {n : ℕ} (f : A → B) (d : A) → length xs ≡ n
    → ((p q : F) (x : A) (y : B) → Called g p (x, tt) y q → y ≡ f x) → IsMapOf g p xs ys n → ys ≡ map f xs
mapped {xs = xs} {ys = ys} f d l h m =
    tied f d (f d) xs ys (omega (arith, m.long)) (λ i k. let c = m.at i d (f d) (omega arith) in h c.0 c.1 _ _ c.2)
