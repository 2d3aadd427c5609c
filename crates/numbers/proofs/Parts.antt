-- A slice that is lent in parts or stored to, from the front on: what has been written stands before what was found.
use Rattle.std.proofs.Common.{◌≡◌, ℕ, ◌+◌, ◌-◌, ◌<◌, ◌≤◌, List, [], ◌∷◌, ◌++◌, length, take, drop, set, sym, refl, ◌∙◌, append_assoc, append-nil, add-one, arith, length-append, length-drop, take-append-drop, drop_of_length-le, length-take-le, take_all, drop-drop, take-suc-set, take_at, drop_at}
use lib.Seq.{append_snoc, set_split, sets, sets-eq}
use borrow.Rule.Slice.PartMut.{put_mid, mid_of}
use Rattle.numbers.specs.Bytes.{copied}

-- a part in the middle is as long as it is said to be
pub mid_length : {X : Type 0} (a k : ℕ) (xs : List X) → a + k ≤ length xs → length (mid_of a k xs) ≡ k
mid_length a k xs h = let d = length-drop a xs in length-take-le k (drop a xs) (omega arith)

-- stores from 0 on that fill a list
pub filled : {X : Type 0} (vs xs : List X) → length xs ≡ length vs → sets xs 0 vs ≡ vs
filled vs xs e = rw (sets-eq vs xs 0 (omega arith), drop_of_length-le xs {i = 0 + length vs} (omega arith)) (append-nil vs)

-- what has been written so far grows by one store
pub one_more : {X : Type 0} (xs : List X) (q : ℕ) (v w : X) → v ≡ w → q < length xs → take (q + 1) (set xs q v) ≡ take q xs ++ (w ∷ [])
one_more xs q v w e h = rw (e, add-one q) (take-suc-set xs q w h)

-- the first `a` are those of `done`, the others as in `old`
pub record Written {X : Type 0} (old new : List X) (a : ℕ) (done : List X) : Type 0 where
  pub is : new ≡ done ++ drop a old
  pub long : length done ≡ a

pub unwritten : {X : Type 0} (old : List X) → Written old old 0 []
unwritten old = record { is = refl; long = refl }

-- written on from `a`, as it is found there
pub written_to : {X : Type 0} (a : ℕ) (old : List X) → a ≤ length old → Written old old a (take a old)
written_to a old h = record { is = sym (take-append-drop a old); long = length-take-le a old h }

module _ {X : Type 0} {old new done : List X} {a : ℕ} (w : Written old new a done) where
  pub done_is : take a new ≡ done
  done_is = rw w.is (take_at done _ a w.long)

  -- what is still to come
  pub rest_is : drop a new ≡ drop a old
  rest_is = rw w.is (drop_at done _ a w.long)

  pub rest_later : (b : ℕ) → a ≤ b → drop b new ≡ drop b old
  rest_later b h =
      let e : b ≡ a + (b - a) = omega arith in
      rw (e, ← drop-drop (b - a) a new, ← drop-drop (b - a) a old, rest_is)

  -- a part that is lent is as it was found
  pub part_found : (k : ℕ) → mid_of a k new ≡ take k (drop a old)
  part_found k = rw rest_is

  -- and comes back written
  pub part-put : (k : ℕ) (ys : List X) {next : List X} → next ≡ put_mid a k new ys → length ys ≡ k → Written old next (a + k) (done ++ ys)
  part-put k ys e l =
      record {
        is = rw (e, done_is, drop-drop k a new, rest_later (a + k) (omega arith), append_assoc);
        long = rw length-append (omega arith);
      }

  -- the same up to b
  pub part_written : (b : ℕ) (ys : List X) → a ≤ b → length ys ≡ b - a → Written old (put_mid a (b - a) new ys) b (done ++ ys)
  part_written b ys h l = let e : a + (b - a) ≡ b = omega arith in rw e at (part-put (b - a) ys refl l)

  pub sized : a ≤ length old → length new ≡ length old
  sized h = rw (w.is, length-append) (omega (arith, length-drop a old))

  -- or one element is stored
  pub stored : (v : X) → a < length old → Written old (set new a v) (a + 1) (done ++ (v ∷ []))
  stored v h =
      record {
        is = rw (set_split new a v (omega (arith, sized (omega arith))), done_is, ← add-one a, rest_later (a + 1) (omega arith), append_snoc);
        long = rw length-append (omega arith);
      }

  -- all of it
  pub all_written : a ≡ length old → new ≡ done
  all_written e = rw (w.is, drop_of_length-le old {i = a} (omega arith)) (append-nil done)

  -- written on from here
  pub written_on : {next : List X} (b : ℕ) (zs : List X) → a ≤ b → Written new next b (take a new ++ zs) → Written old next b (done ++ zs)
  written_on b zs h v = record { is = rw (done_is, rest_later b h) at v.is; long = rw done_is at v.long }

-- a copy ends where the row that is copied does, or where the other one does
module _ (from : List ℕ) {to new : List ℕ} {i : ℕ} (w : Written to new i (take i from)) where
  pub copied_all : i ≡ length from → i ≤ length to → new ≡ copied from to
  copied_all e h = w.is ∙ rw (take_all i from (omega arith), take_all (length to) from (omega arith), e)

  pub copied_full : i ≡ length to → i ≤ length from → new ≡ copied from to
  copied_full e h = w.is ∙ rw (drop_of_length-le to {i = i} (omega arith), drop_of_length-le to {i = length from} (omega arith), e)

-- over a row as long, it is the row that is copied
pub copied_whole : (from to : List ℕ) → length to ≡ length from → copied from to ≡ from
copied_whole from to e =
    rw (take_all (length to) from (omega arith), drop_of_length-le to {i = length from} (omega arith)) (append-nil from)
