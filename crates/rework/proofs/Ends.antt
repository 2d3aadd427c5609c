-- The end record of a rework: the old one with the set's own parts of the new is the end of the second run. By index.
use mathlib.Core.Bool.{true, false, true≢false}
use mathlib.Core.List.{List}
use mathlib.Core.Path.{◌≡◌, refl, sym, ap, ◌∙◌}
use Prim.Native.Nat.{ℕ, ◌+◌, ◌*◌, ◌/◌, ◌%◌, ◌<◌}
use native.Mathlib.Omega.{arith}
use native.Mathlib.Decide.{dec_lt}
use borrow.Author.Tests.{eqb-true, eqb-false}
use lib.ListN.{get_or, length}
use Rattle.numbers.specs.Choice.{◌=?◌}
use Rattle.numbers.proofs.Choice.{tested}
use Rattle.numbers.specs.Bits.{bit}
use Rattle.numbers.proofs.Bits.{byte_ext}
use Rattle.dsp.specs.Machine.{no_voice, Parts}
use Rattle.dsp.proofs.Tests.{lt, ◌and◌}
use Rattle.rework.specs.Differ.{Outside, SameBytes, SameBut}
use Rattle.rework.specs.Rework.{picked, owns, end_byte, picked_bytes, end_parts}
use Rattle.rework.proofs.Listed.{listed-is}
use Rattle.rework.proofs.Bits.{itself, unless, bit-behind, end_byte_lem}
use Rattle.rework.proofs.Tape.{Sim}
use Rattle.rework.proofs.Kept.{Sized}

-- two arrays that agree with a third, the one in the set and the other outside it, make the third
picked_all : {A : Type 0} (d : A) (a : ℕ) (xs ys zs : List A) → length zs ≡ 8 → ((j : ℕ) → j < 8 → bit a j ≡ true → get_or xs j d ≡ get_or zs j d)
    → ((j : ℕ) → j < 8 → Outside a j → get_or ys j d ≡ get_or zs j d) → picked d a xs ys ≡ zs
unfolding picked
picked_all d a xs ys zs m e h = listed-is d _ 8 zs m (λ j k. tested (λ x. x ≡ get_or zs j d) (bit a j) (e j k) (h j k))

-- a register that is not taken from the new record
other_byte : (a i : ℕ) (ys zs : List ℕ) → i < 128 → SameBytes a ys zs → (i =? 0x7C) ≡ false → owns a i ≡ false → get_or ys i 0 ≡ get_or zs i 0
other_byte a i ys zs l s e o =
    elim (dec_lt (i % 16) 10) [
      | yes p ↦
          let out = unless (bit a (i / 16)) (λ b. true≢false (sym ((lt (i % 16) 10 and itself (bit a (i / 16))).holds (p, b)) ∙ o)) in
          let at : i / 16 * 16 + i % 16 ≡ i = omega arith in
          rw at at (s.own (i / 16) (i % 16) (omega arith) p out)
      | no p ↦ s.others i l (omega arith) (eqb-false i 0x7C e)
    ]

-- y, z: ENDX of the old end and of the second run's
endx_byte : (a y z : ℕ) → y < 256 → z < 256 → ((j : ℕ) → j < 8 → Outside a j → bit y j ≡ bit z j) → end_byte a 0x7C z y ≡ z
endx_byte a y z l m h =
    byte_ext (end_byte a 0x7C z y) z (end_byte_lem a z y l) m (λ k n. bit-behind a z y k 8 n ∙ tested (λ b. b ≡ bit z k) (bit a k) (λ t. refl) (h k n))

-- bytes that agree with others outside the set, and have the others' own bytes and ENDX bits in it, are the others
bytes-all : (a : ℕ) (ys zs : List ℕ) → length zs ≡ 128 → get_or ys 0x7C 0 < 256 → get_or zs 0x7C 0 < 256 → SameBytes a ys zs → picked_bytes a zs ys ≡ zs
unfolding picked_bytes
bytes-all a ys zs m b c s =
    listed-is 0 _ 128 zs m
    (λ i k.
    tested (λ x. x ≡ get_or zs i 0) (i =? 0x7C) (λ e. rw (eqb-true i 0x7C e) (endx_byte a (get_or ys 0x7C 0) (get_or zs 0x7C 0) b c s.endx))
    (λ e. tested (λ x. x ≡ get_or zs i 0) (owns a i) (λ o. refl) (other_byte a i ys zs k s e)))

-- x: what a rework leaves; y: the old end; z: the end of the second run
pub end-parts : (a : ℕ) (x y z : Parts) → Sized y → Sized z → get_or y.registers 0x7C 0 < 256 → get_or z.registers 0x7C 0 < 256
    → Sim a x z → SameBut a y z → end_parts a x y ≡ z
end-parts a x y z h k l m r s =
    let b = ap (λ (n : List ℕ). picked_bytes a n y.registers) r.bytes ∙ bytes-all a y.registers z.registers k.registers l m s.bytes in
    let v = picked_all no_voice a x.voices y.voices z.voices k.voices r.voices s.voices in
    let d = picked_all 0 a x.delays y.delays z.delays k.delays r.delays s.delays in
    λ i. record { registers = b i; voices = v i; delays = d i; taps = s.taps i; left = s.left i; right = s.right i; globals = s.globals i }
