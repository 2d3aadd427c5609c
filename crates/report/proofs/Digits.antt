-- The hex digits of a number, written from the last to the first.
use Rattle.std.proofs.Common.{◌≡◌, ℕ, suc, ◌+◌, ◌/◌, ◌%◌, ◌<◌, List, ◌∷◌, ◌++◌, length, take, drop, set, sym, ap, ◌∙◌, append-nil, add-one, arith, drop_of_length-le, length-take-le, drop_at}
use lib.Seq.{append_snoc, set_split}
use Rattle.report.specs.Hex.{capital, in_hex}

-- none of them is written
pub unwritten : (width x : ℕ) (text : List ℕ) → length text ≡ width → in_hex width x ++ drop width text ≡ in_hex width x
unwritten width x text e = ap (λ (l : List ℕ). in_hex width x ++ l) (drop_of_length-le text {i = width} (omega arith)) ∙ append-nil (in_hex width x)

-- the last of those that are left goes before those that are written
pub digit_before : (i rest : ℕ) (text : List ℕ) {v : ℕ} → i < length text → v ≡ capital (rest % 16)
    → in_hex i (rest / 16) ++ drop i (set text i v) ≡ in_hex (i + 1) rest ++ drop (i + 1) text
unfolding in_hex
digit_before i rest text {v} h e =
    let s : drop i (set text i v) ≡ v ∷ drop (suc i) text =
    ap (drop i) (set_split text i v h) ∙ drop_at (take i text) (v ∷ drop (suc i) text) i (length-take-le i text (omega arith)) in
    ap (λ (l : List ℕ). in_hex i (rest / 16) ++ l) (s ∙ ap (λ (n : ℕ). n ∷ drop (suc i) text) e)
    ∙ sym (append_snoc (in_hex i (rest / 16)) (capital (rest % 16)) (drop (suc i) text))
    ∙ rw (add-one i)
