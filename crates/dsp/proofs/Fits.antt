-- A record is fit by the test where it is fit by the facts; the power-on record is; a register write keeps it so.
use Rattle.std.proofs.Common.{if◌then◌else◌}
use mathlib.Core.Bool.{Bool, true}
use mathlib.Core.List.{List, [], ◌∷◌, ◌++◌, map}
use mathlib.Core.Path.{◌≡◌, refl}
use Prim.Native.Nat.{ℕ, ◌/◌, ◌%◌, ◌≤◌, ◌<◌}
use native.Mathlib.Omega.{arith}
use lib.ListN.{get_or, set}
use Rattle.numbers.specs.Choice.{◌<?◌, ◌=?◌}
use Rattle.numbers.specs.Listed.{all}
use Rattle.numbers.proofs.Choice.{chosen}
use Rattle.numbers.proofs.Turns.{set_keeps}
use Rattle.numbers.proofs.Lists.{map_both, all-at, all_holds}
use Rattle.dsp.specs.Machine.{Globals, no_voice, globals_of}
use Rattle.dsp.specs.PowerOn.{new_dsp}
use Rattle.dsp.specs.Fit.{Clause, ◌at_most◌, ◌below◌, ◌is◌, ◌multiple_of◌, ◌or◌, adsr_rule, brr_rule, voice_rule, delay_rule, globals_rule, test, meets, fit, Fact, Facts, FitAdsr, FitBrr, FitVoice, FitGlobals, Fit}
use Rattle.dsp.specs.Keys.{silenced}
use Rattle.dsp.specs.Registers.{write_voice, resets, globals_after, write_parts, write_at}
use Rattle.dsp.specs.declared.voice.Voice.{Voice}
use Rattle.dsp.specs.declared.registers.Dsp.{Dsp}
use Rattle.dsp.proofs.Tests.{Decides, le, lt, eq, restated, ◌and◌, ◌otherwise◌}

-- ---- a rule decides its facts

clause : (c : Clause) → Decides (test c) (Fact c)
clause (a at_most b) = le a b
clause (a below b) = lt a b
clause (a is b) = eq a b
clause (a multiple_of b) = eq (a % b) 0
clause (c or d) = clause c otherwise clause d

pub rule : (cs : List Clause) → Decides (meets cs) (Facts cs)
unfolding all
rule [] = record { sound = λ e. tt; holds = λ h. refl }
rule (c ∷ cs) = clause c and rule cs

-- two rules one behind the other
pub facts_both : (xs ys : List Clause) → Facts xs → Facts ys → Facts (xs ++ ys)
facts_both [] ys p q = q
facts_both (x ∷ xs) ys p q = (p.0, facts_both xs ys p.1 q)

facts_first : (xs ys : List Clause) → Facts (xs ++ ys) → Facts xs
facts_first [] ys h = tt
facts_first (x ∷ xs) ys h = (h.0, facts_first xs ys h.1)

facts_second : (xs ys : List Clause) → Facts (xs ++ ys) → Facts ys
facts_second [] ys h = h
facts_second (x ∷ xs) ys h = facts_second xs ys h.1

-- ---- the facts of a voice

pub voice-fit : (v : Voice) → v.pitch ≤ 0x3FFF → v.pitch_counter ≤ 0x7FFF → FitAdsr v.adsr → FitBrr v.brr → FitVoice v
voice-fit v p q a b = (p, (q, facts_both (adsr_rule v.adsr) (brr_rule v.brr) a b))

pub adsr_fit : (v : Voice) → FitVoice v → FitAdsr v.adsr
adsr_fit v h = facts_first (adsr_rule v.adsr) (brr_rule v.brr) h.1.1

pub brr_fit : (v : Voice) → FitVoice v → FitBrr v.brr
brr_fit v h = facts_second (adsr_rule v.adsr) (brr_rule v.brr) h.1.1

-- the level, which keeps an output to 16 bits
pub level_fit : (v : Voice) → FitVoice v → v.adsr.envelope_level ≤ 0x800
level_fit v h = (adsr_fit v h).0

pub no_voice-fit : FitVoice no_voice
unfolding all
no_voice-fit = (rule (voice_rule no_voice)).sound refl

-- ---- the facts of a record

-- every element of a list, and what lies past its end
every : {A : Type 0} (t : A → Bool) (P : A → Type 0) → ((a : A) → Decides (t a) (P a)) → (d : A) → P d → (xs : List A) → Decides (all t xs) ((n : ℕ) → P (get_or xs n d))
every t P k d p xs =
    record {
      sound = λ e n. (k (get_or xs n d)).sound (all-at t d xs e ((k d).holds p) n);
      holds = λ h. all_holds t d xs (λ n l. (k (get_or xs n d)).holds (h n));
    }

fit_decides : (d : Dsp) → Decides (fit d) (Fit d)
unfolding fit
fit_decides d =
    restated
    (rule (globals_rule (globals_of d))
    and every (λ v. meets (voice_rule v)) FitVoice (λ v. rule (voice_rule v)) no_voice no_voice-fit d.voices
    and every (λ n. meets (delay_rule n)) (λ n. Facts (delay_rule n)) (λ n. rule (delay_rule n)) 0 (omega arith, tt) d.kon_delay)
    (λ h. record { globals = h.0.0; voices = h.0.1; delays = h.1 })
    (λ f. ((f.globals, f.voices), f.delays))

pub fit_facts : (d : Dsp) → fit d ≡ true → Fit d
fit_facts d e = (fit_decides d).sound e

pub facts_fit : (d : Dsp) → Fit d → fit d ≡ true
facts_fit d f = (fit_decides d).holds f

pub new-fit : fit new_dsp ≡ true
unfolding fit all
new-fit = refl

-- ---- a register write

-- whichever is taken
pub most_of : (m : ℕ) (b : Bool) {x y : ℕ} → x ≤ m → y ≤ m → (if b then x else y) ≤ m
most_of m b = chosen (λ (n : ℕ). n ≤ m) b

write-fit : (i x : ℕ) (v : Voice) → x < 256 → FitVoice v → FitVoice (write_voice i x v)
write-fit i x v l h =
    let w = write_voice i x v in
    let attack : w.adsr.attack_rate ≤ 15 = most_of 15 (i =? 5) (omega arith) (omega arith) in
    let decay : w.adsr.decay_rate ≤ 7 = most_of 7 (i =? 5) (omega arith) (omega arith) in
    let target : w.adsr.sustain_level ≤ 7 = most_of 7 (i =? 6) (omega arith) (omega arith) in
    let sustain : w.adsr.sustain_rate ≤ 31 = most_of 31 (i =? 6) (omega arith) (omega arith) in
    voice-fit w (most_of 0x3FFF (i =? 2) (omega arith) (most_of 0x3FFF (i =? 3) (omega arith) h.0)) h.1.0 (omega arith) (brr_fit v h)

globals-write-fit : (i x : ℕ) (g : Globals) → FitGlobals g → FitGlobals (globals_after i x g)
globals-write-fit i x g h =
    let even : (globals_after i x g).pmon % 2 ≡ 0 = chosen (λ (n : ℕ). n % 2 ≡ 0) (i =? 0x2D) (omega arith) (omega arith) in
    (h.0, (h.1.0, (most_of 15 (i =? 0x7D) (omega arith) (omega arith), (even, h.1.1.1.1))))

abbrev pub AllFit : List Voice → Type 0
AllFit vs = (n : ℕ) → FitVoice (get_or vs n no_voice)

pub set-fit : (vs : List Voice) (n : ℕ) (v : Voice) → FitVoice v → AllFit vs → AllFit (set vs n v)
set-fit vs n v p h m = set_keeps FitVoice no_voice vs n v p m (h m)

pub silenced-fit : (v : Voice) → FitVoice v → FitVoice (silenced v)
silenced-fit v h = (h.0, (h.1.0, (omega arith, h.1.1.1)))

silence_fit : (vs : List Voice) → AllFit vs → AllFit (map silenced vs)
silence_fit vs h n = map_both (λ (v w : Voice). FitVoice v) silenced no_voice (λ v w k. silenced-fit v k) vs vs refl n (h n)

pub fit-kept-write : (i x : ℕ) (d : Dsp) → i < 128 → x < 256 → Fit d → Fit (write_at i x d)
unfolding write_at write_parts
fit-kept-write i x d li lx h =
    let v = get_or d.voices (i / 16) no_voice in
    record {
      globals = globals-write-fit i x (globals_of d) h.globals;
      voices =
          chosen AllFit (i % 16 <? 8)
          (set-fit d.voices (i / 16) _ (write-fit (i % 16) x v lx (h.voices (i / 16))) h.voices)
          (chosen AllFit (resets i x) (silence_fit d.voices h.voices) h.voices);
      delays = h.delays;
    }
