-- A fit record (document 01, "The chip and its bench"). Each clause of the rule stands once; it is read as a test that is computed, and as
-- the fact that it tests.
use Rattle.std.specs.Prelude.{Bool, ◌&&◌, ◌||◌, List, [], ◌∷◌, ◌++◌, ◌⊎◌, ◌≡◌, ℕ, ◌%◌, ◌≤◌, ◌<◌, get_or}
use Rattle.numbers.specs.Choice.{◌≤?◌, ◌<?◌, ◌=?◌}
use Rattle.numbers.specs.Listed.{all}
use Rattle.dsp.specs.Machine.{Globals, no_voice, globals_of}
use Rattle.dsp.specs.declared.adsr.Adsr.{Adsr}
use Rattle.dsp.specs.declared.brr.Brr.{Brr}
use Rattle.dsp.specs.declared.voice.Voice.{Voice}
use Rattle.dsp.specs.declared.registers.Dsp.{Dsp}

infix 40 ◌at_most◌ ◌below◌ ◌is◌ ◌multiple_of◌
infixl 30 ◌or◌
pub data Clause : Type 0 where
  ◌at_most◌ ◌below◌ ◌is◌ ◌multiple_of◌ : ℕ → ℕ → Clause
  ◌or◌ : Clause → Clause → Clause

-- ---- the rule

abbrev pub adsr_rule : Adsr → List Clause
adsr_rule a =
    (a.envelope_level at_most 0x800)
    ∷ (a.tick_counter at_most 2047)
    ∷ (a.attack_rate at_most 15)
    ∷ (a.decay_rate at_most 7)
    ∷ (a.sustain_level at_most 7)
    ∷ (a.sustain_rate at_most 31)
    ∷ []

abbrev pub brr_rule : Brr → List Clause
brr_rule b = (b.nibble_idx at_most 15) ∷ (b.buffer_fill is 0 or b.buffer_fill is 16) ∷ []

abbrev pub voice_rule : Voice → List Clause
voice_rule v = (v.pitch at_most 0x3FFF) ∷ (v.pitch_counter at_most 0x7FFF) ∷ adsr_rule v.adsr ++ brr_rule v.brr

abbrev pub delay_rule : ℕ → List Clause
delay_rule delay = (delay at_most 5) ∷ []

abbrev pub globals_rule : Globals → List Clause
globals_rule g =
    (g.noise.counter at_most 2047)
    ∷ (g.noise.lfsr at_most 0x7FFF)
    ∷ (g.edl at_most 15)
    ∷ (g.pmon multiple_of 2)
    ∷ (g.echo_len multiple_of 2048)
    ∷ (g.echo_len at_most 30720)
    ∷ (g.echo_ptr multiple_of 4)
    ∷ (g.echo_ptr is 0 or g.echo_ptr below g.echo_len)
    ∷ []

-- ---- the test

abbrev pub test : Clause → Bool
test (a at_most b) = a ≤? b
test (a below b) = a <? b
test (a is b) = a =? b
test (a multiple_of b) = a % b =? 0
test (c or d) = test c || test d

abbrev pub meets : List Clause → Bool
meets rule = all test rule

-- the numbers, every voice, and every delay
unfoldable pub fit : Dsp → Bool
fit d = meets (globals_rule (globals_of d)) && all (λ v. meets (voice_rule v)) d.voices && all (λ n. meets (delay_rule n)) d.kon_delay

-- ---- the facts

abbrev pub Fact : Clause → Type 0
Fact (a at_most b) = a ≤ b
Fact (a below b) = a < b
Fact (a is b) = a ≡ b
Fact (a multiple_of b) = a % b ≡ 0
Fact (c or d) = Fact c ⊎ Fact d

abbrev pub Facts : List Clause → Type 0
Facts [] = Unit
Facts (c ∷ cs) = Fact c × Facts cs

abbrev pub FitAdsr : Adsr → Type 0
FitAdsr a = Facts (adsr_rule a)

abbrev pub FitBrr : Brr → Type 0
FitBrr b = Facts (brr_rule b)

abbrev pub FitVoice : Voice → Type 0
FitVoice v = Facts (voice_rule v)

abbrev pub FitGlobals : Globals → Type 0
FitGlobals g = Facts (globals_rule g)

pub record Fit (d : Dsp) : Type 0 where
  pub globals : FitGlobals (globals_of d)
  pub voices : (n : ℕ) → FitVoice (get_or d.voices n no_voice)
  pub delays : (n : ℕ) → Facts (delay_rule (get_or d.kon_delay n 0))
