-- A tick's row is what the record shows after it.
use mathlib.Core.Bool.{Bool}
use mathlib.Core.List.{List, ◌++◌}
use mathlib.Core.Logic.{◌≢◌}
use mathlib.Core.Path.{◌≡◌, refl, sym, ap, ◌∙◌}
use Prim.Native.Nat.{ℕ, zero, suc, ◌+◌, ◌*◌, ◌≤◌, ◌<◌}
use native.Mathlib.Omega.{arith}
use lib.IntN.{ℤ}
use lib.ListN.{get_or, set, length, length-set}
use lib.Seq.{get_or-set_same, get_or-set_other, set-get_or, set-set, set_comm}
use Rattle.numbers.specs.Signed.{high_z}
use Rattle.numbers.specs.Bits.{bit, with_bit}
use Rattle.numbers.proofs.Bits.{bit_here, bit_there}
use Rattle.dsp.specs.Machine.{no_voice, apart}
use Rattle.dsp.specs.Mix.{output_of}
use Rattle.dsp.specs.Sheet.{lane_bytes, pair_bytes}
use Rattle.dsp.specs.Echo.{echo_tick, echo_moved, echo_lane}
use Rattle.dsp.specs.Lane.{put_bytes, cell_after, cell_of, own_cell, turned, Shared}
use Rattle.dsp.specs.Tick.{Round, turn, voices_tick, everything, start_of, shared_of, tick_of}
use Rattle.dsp.specs.declared.voice.Voice.{Voice}
use Rattle.dsp.proofs.Whole.{full}
use Rattle.rework.specs.Shown.{lanes_of, RowShows}
use Rattle.rework.proofs.Lanes.{cell_in}
use Rattle.rework.proofs.Right.{turns-both}

-- ---- a voice's registers, after ENVX, OUTX and the ENDX bit of voice n were put

module _ (n envx : ℕ) (out : ℤ) (endx : Bool) (bytes : List ℕ) (l : n < 8) (sized : length bytes ≡ 128) where
  -- but for ENDX
  abbrev pub shown : List ℕ
  shown = set (set bytes (n * 16 + 8) envx) (n * 16 + 9) (high_z out)

  pub shown_sized : length shown ≡ 128
  shown_sized = simp length-set sized

  shown_other : (i : ℕ) → i ≢ n * 16 + 8 → i ≢ n * 16 + 9 → get_or shown i 0 ≡ get_or bytes i 0
  shown_other i a b = get_or-set_other (set bytes (n * 16 + 8) envx) (n * 16 + 9) i (high_z out) 0 b ∙ get_or-set_other bytes (n * 16 + 8) i envx 0 a

  -- over any ENDX byte w
  pub put_over : (w : ℕ) → put_bytes n envx out endx (set bytes 0x7C w) ≡ set shown 0x7C (with_bit w n endx)
  unfolding put_bytes
  put_over w =
      rw (set_comm bytes 0x7C (n * 16 + 8) w envx (λ e. absurd (omega arith)), set_comm (set bytes (n * 16 + 8) envx) 0x7C (n * 16 + 9) w (high_z out) (λ e. absurd (omega arith)))
      (rw (set-set, get_or-set_same shown 0x7C w 0 (omega (arith, shown_sized))))

  pub put_is : put_bytes n envx out endx bytes ≡ set shown 0x7C (with_bit (get_or bytes 0x7C 0) n endx)
  put_is = rw (set-get_or bytes 0x7C 0) at (put_over (get_or bytes 0x7C 0))

  pub put_sized : length (put_bytes n envx out endx bytes) ≡ 128
  put_sized = rw put_is (length-set shown 0x7C _ ∙ shown_sized)

  pub put-endx : get_or (put_bytes n envx out endx bytes) 0x7C 0 ≡ with_bit (get_or bytes 0x7C 0) n endx
  put-endx = rw put_is (get_or-set_same shown 0x7C _ 0 (omega (arith, shown_sized)))

  put-envx : get_or (put_bytes n envx out endx bytes) (n * 16 + 8) 0 ≡ envx
  put-envx =
      rw put_is
      (get_or-set_other shown 0x7C (n * 16 + 8) _ 0 (λ e. absurd (omega arith))
      ∙ get_or-set_other (set bytes (n * 16 + 8) envx) (n * 16 + 9) (n * 16 + 8) (high_z out) 0 (λ e. absurd (omega arith))
      ∙ get_or-set_same bytes (n * 16 + 8) envx 0 (omega arith))

  put_there : (i : ℕ) → i ≢ n * 16 + 8 → i ≢ n * 16 + 9 → i ≢ 0x7C → get_or (put_bytes n envx out endx bytes) i 0 ≡ get_or bytes i 0
  put_there i a b c = rw put_is (get_or-set_other shown 0x7C i _ 0 c ∙ shown_other i a b)

-- ---- the lanes

-- those before n stay when voice n is put
lanes_stay : (n envx : ℕ) (out : ℤ) (endx : Bool) (bytes : List ℕ) (vs : List Voice) (y : Voice) → n < 8 → length bytes ≡ 128 → (k : ℕ) → k ≤ n
    → lanes_of (set vs n y) (put_bytes n envx out endx bytes) k ≡ lanes_of vs bytes k
unfolding lanes_of
lanes_stay n envx out endx bytes vs y l z zero m = refl
lanes_stay n envx out endx bytes vs y l z (suc k) m =
    let v = get_or-set_other vs n k y no_voice (λ e. absurd (omega arith)) in
    let b = put_there n envx out endx bytes l z (k * 16 + 8) (λ e. absurd (omega arith)) (λ e. absurd (omega arith)) (λ e. absurd (omega arith)) in
    let x = (λ i. bit (put-endx n envx out endx bytes l z i) k) ∙ bit_there (get_or bytes 0x7C 0) n k endx (λ e. absurd (omega arith)) in
    λ i. lanes_stay n envx out endx bytes vs y l z k (omega arith) i ++ lane_bytes (output_of (v i)) (b i) (x i)

record Lanes (n : ℕ) (r : Round) : Type 0 where
  registers : length r.bytes ≡ 128
  voices : length r.voices ≡ 8
  row : r.row ≡ lanes_of r.voices r.bytes n

lanes_turn : (old : List ℕ) (c : Shared) (ram : List ℕ) (n : ℕ) (r : Round) → n < 8 → Lanes n r → Lanes (suc n) (turn 0xFF old c ram n r)
unfolding turn turned own_cell cell_of cell_after lanes_of
lanes_turn old c ram n r l h =
    let x = cell_in c ram n r in
    let b = r.bytes in
    let v = get_or-set_same r.voices n x.voice no_voice (omega (arith, l, h.voices)) in
    let e = put-envx n x.envx x.out x.endx b l h.registers in
    let d = (λ i. bit (put-endx n x.envx x.out x.endx b l h.registers i) n) ∙ bit_here (get_or b 0x7C 0) n x.endx in
    let s = lanes_stay n x.envx x.out x.endx b r.voices x.voice l h.registers n (omega arith) in
    rw (full n l)
    (record {
      registers = put_sized n x.envx x.out x.endx b l h.registers;
      voices = length-set r.voices n x.voice ∙ h.voices;
      row = λ i. (h.row ∙ sym s) i ++ lane_bytes (output_of (sym v i)) (sym e i) (sym d i);
    })

pub row_shows : RowShows
unfolding tick_of voices_tick lanes_of echo_lane echo_tick echo_moved
row_shows d ram old v =
    let p = apart d in
    let c = shared_of p.globals p.registers in
    let f = turn 0xFF old c ram in
    let h = turns-both (λ (n : ℕ) (r t : Round). Lanes n r) f f 8 (λ n r t. lanes_turn old c ram n r) 8 (start_of p) (start_of p) (omega arith) (record { registers = v.registers; voices = v.voices; row = refl }) in
    let g = (tick_of everything old p ram).parts.globals in
    ap (λ (xs : List ℕ). xs ++ pair_bytes g.echo_out_l g.echo_out_r) h.row
