-- Laws of register writes, by the kind of register.
use mathlib.Core.Bool.{Bool, true, false, ◌&&◌, ◌||◌}
use mathlib.Core.List.{List, [], ◌∷◌, map}
use mathlib.Core.Path.{◌≡◌, refl, ap}
use Prim.Native.Nat.{ℕ, ◌/◌, ◌%◌, ◌≤◌, ◌<◌}
use native.Mathlib.Decide.{ℕ_discrete}
use native.Mathlib.Omega.{arith}
use lib.IntN.{ℤ, pos}
use lib.ListN.{length, get_or, set, length-set}
use lib.Dec.{eqb}
use borrow.Author.Tests.{lt-ltb, le-ltb, eq-eqb, ne_eqb}
use Rattle.numbers.specs.Choice.{◌=?◌, ◌≤?◌}
use Rattle.numbers.specs.Signed.{cut_z}
use Rattle.numbers.proofs.Choice.{chosen}
use Rattle.numbers.proofs.Bits.{top_bit}
use Rattle.dsp.specs.Machine.{no_voice, globals_of, together}
use Rattle.dsp.specs.Keys.{silenced}
use Rattle.dsp.specs.Registers.{at, write_voice, resets, globals_after, endx_write, taps_after, write_parts, write_at}
use Rattle.dsp.specs.Inside.{with_globals}
use Rattle.dsp.specs.declared.voice.Voice.{Voice}
use Rattle.dsp.specs.declared.registers.Dsp.{Dsp}

-- ---- numbers that are none of a list

abbrev pub NoneOf : List ℕ → ℕ → Type 0
NoneOf [] i = Unit
NoneOf (r ∷ rs) i = NoneOf rs i × (i ≡ r → ⊥)

abbrev has : List ℕ → ℕ → Bool
has [] r = false
has (q ∷ rs) r = q =? r || has rs r

none_eqb : (rs : List ℕ) (i : ℕ) → NoneOf rs i → (r : ℕ) → has rs r ≡ true → eqb i r ≡ false
none_eqb [] i h r t = cc
none_eqb (q ∷ rs) i h r t =
    elim (ℕ_discrete q r) [
      | yes e ↦ rw e at (ne_eqb i q h.1)
      | no e ↦ none_eqb rs i h.0 r (rw (ne_eqb q r e) at t)
    ]

-- ---- the record's numbers

-- the registers that stand for one of them, last first as the code lists them
abbrev pub globals : List ℕ
globals = 0x6C ∷ 0x7D ∷ 0x6D ∷ 0x4D ∷ 0x0D ∷ 0x3C ∷ 0x2C ∷ 0x2D ∷ 0x3D ∷ 0x5D ∷ 0x1C ∷ 0x0C ∷ 0x4C ∷ []

-- RESET, as the code tests it
pub reset_tested : (i x : ℕ) → x < 256 → resets i x ≡ ((i =? 0x6C) && (0x80 ≤? x))
reset_tested i x l = ap (λ (t : Bool). (i =? 0x6C) && t) (top_bit x l)

-- FLG takes its byte: it is not ENDX
pub reset_byte : (i x : ℕ) → resets i x ≡ true → at i 0x7C (endx_write x) x ≡ x
reset_byte i x t =
    elim (ℕ_discrete i 0x7C) [
      | yes e ↦ (let f : false ≡ true = rw e at t in cc)
      | no e ↦ rw (ne_eqb i 0x7C e)
    ]

-- as many taps as before
pub taps_many : (i x : ℕ) (taps : List ℤ) → length (taps_after i x taps) ≡ length taps
taps_many i x taps = chosen (λ (ys : List ℤ). length ys ≡ length taps) (i % 16 =? 15) (length-set taps _ _) refl

-- ---- the three kinds of register

-- d with these bytes, voices and taps
abbrev pub changed : List ℕ → List Voice → List ℤ → Dsp → Dsp
changed bytes voices taps d =
    together
    (record {
      registers = bytes;
      voices = voices;
      delays = d.kon_delay;
      taps = taps;
      left = d.fir_history_l;
      right = d.fir_history_r;
      globals = globals_of d;
    })

-- with the byte that the write leaves
abbrev pub stored : ℕ → ℕ → List Voice → List ℤ → Dsp → Dsp
stored i x voices taps d = changed (set d.registers i (at i 0x7C (endx_write x) x)) voices taps d

pub voice-write : (i x : ℕ) (d : Dsp) → i % 16 < 8
    → write_at i x d ≡ stored i x (set d.voices (i / 16) (write_voice (i % 16) x (get_or d.voices (i / 16) no_voice))) d.fir_coeff d
unfolding write_at write_parts
voice-write i x d h =
    let e = none_eqb globals i (omega arith) in
    let f : i % 16 ≡ 15 → ⊥ = omega arith in
    rw (lt-ltb _ _ h, ne_eqb _ _ f) (simp e)

pub tap_write : (i x : ℕ) (d : Dsp) → i % 16 ≡ 15
    → write_at i x d ≡ stored i x d.voices (set d.fir_coeff (i / 16) (cut_z 0x80 (pos x))) d
unfolding write_at write_parts
tap_write i x d h =
    let e = none_eqb globals i (omega arith) in
    let v : 8 ≤ i % 16 = omega arith in
    rw (le-ltb _ _ v, eq-eqb _ _ h) (simp e)

-- RESET, on a record whose other numbers are written
abbrev pub reset : Dsp → Dsp
reset d = changed (set d.registers 0x7C 0) (map silenced d.voices) d.fir_coeff d

abbrev pub globals_written : ℕ → ℕ → Dsp → Dsp
globals_written i x d = with_globals d (globals_after i x (globals_of d))

pub plain-write : (i x : ℕ) (d : Dsp) → 8 ≤ i % 16 → (i % 16 ≡ 15 → ⊥) → resets i x ≡ false → write_at i x d ≡ globals_written i x (stored i x d.voices d.fir_coeff d)
unfolding write_at write_parts
plain-write i x d v f t = rw (le-ltb _ _ v, ne_eqb _ _ f, t)

pub reset_write : (i x : ℕ) (d : Dsp) → 8 ≤ i % 16 → (i % 16 ≡ 15 → ⊥) → resets i x ≡ true
    → write_at i x d ≡ reset (globals_written i x (stored i x d.voices d.fir_coeff d))
unfolding write_at write_parts
reset_write i x d v f t = rw (le-ltb _ _ v, ne_eqb _ _ f, t, reset_byte i x t)
