-- A list put into a slice from its front on, as far as there is room.
use Rattle.std.proofs.Common.{◌≡◌, ℕ, ◌+◌, ◌<◌, ◌≤◌, List, [], ◌∷◌, ◌++◌, length, take, set, sym, refl, ap, ◌∙◌, subst, append-nil, arith, length-append, length-take-le, take_at, le-leb}
use mathlib.Core.Path.{subst⁻¹}
use lib.Seq.{append_snoc}
use Rattle.std.specs.Counts.{IsPrefixLen}
use Rattle.numbers.specs.Bytes.{copied}
use Rattle.numbers.specs.Unsigned.{least}
use Rattle.numbers.proofs.Choice.{least_top}
use Rattle.numbers.proofs.Parts.{Written, unwritten, stored, sized, copied_all, copied_full}

counted : (n : ℕ) (buf : List ℕ) → n ≤ length buf → IsPrefixLen n buf
counted n buf h = (h, sym (length-take-le n buf h))

-- `put` of them stand there, and `more` are still to come
pub record Filling (all old new : List ℕ) (put : ℕ) (more : List ℕ) : Type 0 where
  pub room : put ≤ length old
  pub done : List ℕ
  pub written : Written old new put done
  pub rest : done ++ more ≡ all

pub unfilled : (all old : List ℕ) → Filling all old old 0 all
unfilled all old = record { room = omega arith; done = []; written = unwritten old; rest = refl }

-- how many are put, and where they stand
abbrev pub Filled : List ℕ → List ℕ → List ℕ → ℕ → Type 0
Filled all old new put = (put ≡ least (length all) (length old)) × (new ≡ copied all old) × IsPrefixLen put new

module _ {all old new more : List ℕ} {put : ℕ} (h : Filling all old new put more) where
  pub long : length new ≡ length old
  long = sized h.written h.room

  front : Written old new put (take put all)
  front = subst (λ (l : List ℕ). Written old new put l) (sym (take_at h.done more put h.written.long) ∙ ap (take put) h.rest) h.written

  few : put ≤ length all
  few = omega (arith, ap length h.rest, length-append h.done more, h.written.long)

  -- there is no more room
  pub full : put ≡ length old → Filled all old new put
  full e = (e ∙ sym (least_top _ _ (omega (arith, e, few))), copied_full all front e few, counted put new (omega (arith, long, h.room)))

  -- or there are no more
  pub ended : more ≡ [] → Filled all old new put
  ended e =
      let c : h.done ≡ all = sym (append-nil h.done) ∙ ap (λ (l : List ℕ). h.done ++ l) (sym e) ∙ h.rest in
      let l : put ≡ length all = sym h.written.long ∙ ap length c in
      let m : length all ≤ length old = omega (arith, l, h.room) in
      (l ∙ rw (le-leb _ _ m), copied_all all front l h.room, counted put new (omega (arith, long, h.room)))

  pub one_put : (v : ℕ) {next : List ℕ} → more ≡ v ∷ next → put < length old → Filling all old (set new put v) (put + 1) next
  one_put v {next} e l =
      record {
        room = omega (arith, l);
        done = h.done ++ (v ∷ []);
        written = stored h.written v l;
        rest = append_snoc h.done v next ∙ ap (λ (k : List ℕ). h.done ++ k) (sym e) ∙ h.rest;
      }

  -- the slice and the count by other names
  pub seen_as : {next : List ℕ} {at : ℕ} → next ≡ new → at ≡ put → Filling all old next at more
  seen_as {next} {at} e l = subst⁻¹ (λ (n : List ℕ). Filling all old n at more) e (subst⁻¹ (λ (k : ℕ). Filling all old new k more) l h)

  -- what is to come, in other words
  pub renamed : {next : List ℕ} → more ≡ next → Filling all old new put next
  renamed e = subst (λ (l : List ℕ). Filling all old new put l) e h
