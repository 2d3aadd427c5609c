-- A product with a level of at most $800 is bounded exactly. The dry sum, voice after voice.
use mathlib.Core.List.{List}
use mathlib.Core.Path.{◌≡◌, ◌∙◌, sym, ap}
use mathlib.Core.Bool.{true}
use Prim.Native.Nat.{ℕ, suc, ◌*◌, ◌-◌, ◌≤◌}
use native.Mathlib.Nat.{mul-le-mul, le_refl}
use native.Mathlib.Omega.{arith}
use lib.IntN.{pos, ◌*ℤ◌, *ℤ_comm}
use lib.ListN.{get_or, length}
use mir.Syntax.{w32}
use mir.Val.{to_z}
use mir.ValLaws.{to_z_pos}
use Rattle.numbers.proofs.Range.{Law1, times_law}
use Rattle.numbers.specs.Listed.{turns}
use Rattle.numbers.proofs.Turns.{folded_turns}
use Rattle.dsp.specs.Machine.{no_voice}
use Rattle.dsp.specs.Mix.{Stereo, silent, with_output, dry_of}
use Rattle.dsp.specs.declared.voice.Voice.{Voice}

pub level_law : (n : ℕ) → n ≤ 0x800 → Law1 (λ x. x *ℤ to_z w32 n) (λ x. x *ℤ pos n) (λ m. 0x800 * suc m - 1) (λ m. true)
level_law n l x m p t =
    let h : n * suc m ≤ 0x800 * suc m = mul-le-mul l (le_refl (suc m)) in
    (rw (to_z_pos w32 n (omega arith)), rw (*ℤ_comm x (pos n)) (omega (arith, (times_law n x m p tt).1)))

-- the sum of the first n voices of a list, and of all of them
abbrev pub dry_up_to : List Voice → ℕ → Stereo
dry_up_to vs n = turns (λ k s. with_output s (get_or vs k no_voice)) n silent

pub dry_whole : (vs : List Voice) (n : ℕ) → length vs ≡ n → dry_up_to vs n ≡ dry_of vs
unfolding dry_of
dry_whole vs n e = ap (dry_up_to vs) (sym e) ∙ sym (folded_turns no_voice with_output silent vs)
