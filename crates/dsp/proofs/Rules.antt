-- The rule of a fit record, tested as the code tests it: voices and delays in turn.
use mathlib.Core.Bool.{Bool, ◌&&◌, and-true, and_assoc, and_comm}
use mathlib.Core.List.{List, map}
use mathlib.Core.Path.{◌≡◌, sym, ◌∙◌}
use Prim.Native.Nat.{ℕ, suc, ◌<◌}
use native.Mathlib.Omega.{arith}
use lib.ListN.{get_or, length, length-map, take}
use lib.Seq.{take_all}
use Rattle.numbers.specs.Choice.{◌≤?◌}
use Rattle.numbers.specs.Listed.{all}
use Rattle.numbers.proofs.Lists.{all_more}
use Rattle.dsp.specs.Machine.{no_voice, globals_of}
use Rattle.dsp.specs.Fit.{voice_rule, delay_rule, globals_rule, meets, fit}
use Rattle.dsp.specs.declared.registers.Dsp.{Dsp}

-- of an array of structs the machine knows how many values stand for them (for `search`)
pub unmapped : {A B : Type 0} (f : A → B) (l : List A) (n : ℕ) → length (map f l) ≡ n → length l ≡ n
unmapped f l n e = sym (length-map l f) ∙ e

abbrev pub fit_up_to : Dsp → ℕ → Bool
fit_up_to d n = meets (globals_rule (globals_of d)) && all (λ v. meets (voice_rule v)) (take n d.voices) && all (λ k. meets (delay_rule k)) (take n d.kon_delay)

pub fit_none : (d : Dsp) → meets (globals_rule (globals_of d)) ≡ fit_up_to d 0
unfolding all
fit_none d = simp and-true

pub delay-is : (k : ℕ) → (k ≤? 5) ≡ meets (delay_rule k)
unfolding all
delay-is k = simp and-true

-- two at the head of a chain change places
and_swap : (a b c : Bool) → (a && (b && c)) ≡ (b && (a && c))
and_swap a b c = rw (← and_assoc a b c, and_comm a b, and_assoc)

in_turn : (g v d x y : Bool) → (g && v && d && x && y) ≡ (g && (v && x) && (d && y))
in_turn g v d x y = simp (and_assoc, and_swap)

pub fit_more : (d : Dsp) (n : ℕ) → n < length d.voices → n < length d.kon_delay
    → (fit_up_to d n && meets (voice_rule (get_or d.voices n no_voice)) && meets (delay_rule (get_or d.kon_delay n 0))) ≡ fit_up_to d (suc n)
fit_more d n l m = rw (all_more (λ v. meets (voice_rule v)) no_voice, all_more (λ k. meets (delay_rule k)) 0, in_turn)

pub fit_whole : (d : Dsp) → length d.voices ≡ 8 → length d.kon_delay ≡ 8 → fit_up_to d 8 ≡ fit d
unfolding fit
fit_whole d l m = rw (take_all 8 d.voices (omega arith), take_all 8 d.kon_delay (omega arith))
