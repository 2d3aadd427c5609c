-- Numbers in bytes, low byte first, as the library gives them.
use mathlib.Core.List.{List, [], ◌∷◌, ◌++◌}
use mathlib.Core.Path.{◌≡◌, ap, ◌∙◌}
use Prim.Native.Nat.{ℕ, ◌+◌, ◌/◌, ◌%◌}
use native.Mathlib.Omega.{arith}
use lib.ListN.{length}
use borrow.Rule.Slice.PartMut.{put_mid}
use Rattle.numbers.proofs.Parts.{Written, part-put}
use Rattle.wav.specs.Wav.{in_bytes}

pub four_bytes : (x : ℕ) → x % 0x100 ∷ x / 0x100 % 0x100 ∷ x / 0x10000 % 0x100 ∷ x / 0x1000000 % 0x100 ∷ [] ≡ in_bytes 4 x
unfolding in_bytes
four_bytes x =
    let e : x / 0x10000 ≡ x / 0x100 / 0x100 = omega arith in
    let f : x / 0x1000000 ≡ x / 0x100 / 0x100 / 0x100 = omega arith in
    λ i. x % 0x100 ∷ x / 0x100 % 0x100 ∷ e i % 0x100 ∷ f i % 0x100 ∷ []

-- a field whose bytes are known by another name
pub field : {old new done : List ℕ} {a : ℕ} → Written old new a done → (k : ℕ) (ys : List ℕ) {bytes next : List ℕ}
    → next ≡ put_mid a (length bytes) new bytes → bytes ≡ ys → length ys ≡ k → Written old next (a + k) (done ++ ys)
field {new = new} {a = a} w k ys e f l = part-put w k ys (e ∙ (λ i. put_mid a (length (f i)) new (f i)) ∙ ap (λ (n : ℕ). put_mid a n new ys) l) l
