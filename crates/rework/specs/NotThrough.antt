-- What must not get through, and what is easy to get wrong, as document 01 lists them: for each such program an input at which the
-- definition that a contract equals gives something else. Every contract is an equation, so that no program can meet it and do
-- otherwise there.
use Rattle.std.specs.Prelude.{true, List, [], ◌∷◌, ◌≢◌, ◌≡◌, ℕ, zero, suc, ◌*◌, ℤ, pos, ◌+ℤ◌, get_or, take, drop, replicate}
use Rattle.numbers.specs.Signed.{clamp16_z}
use Rattle.sound.specs.Sound.{volumed}
use Rattle.dsp.specs.Machine.{no_voice, globals_of, together}
use Rattle.dsp.specs.PowerOn.{new_adsr, new_brr, new_voice, new_dsp}
use Rattle.dsp.specs.Mix.{output_of, master_of, render_of}
use Rattle.dsp.specs.Ticks.{refused, step_of, undriven}
use Rattle.dsp.specs.declared.registers.Dsp.{Dsp}
use Rattle.dsp.specs.declared.voice.Voice.{Voice}
use Rattle.chip_log.specs.Measure.{unmeasured}
use Rattle.dsp.specs.Run.{Outcome, unrun, run_of}
use Rattle.sitting.specs.Parts.{unparted}
use Rattle.rework.specs.Rework.{Left, unreworked, rework_of}
use Rattle.rework.specs.Demands.{Chip, RefusesByTheTable}

-- ---- logs

abbrev pub ram : List ℕ
ram = replicate 0x10000 0

abbrev pub put : ℕ → ℕ → List ℕ → List ℕ
put r x rest = 0x52 ∷ 0x57 ∷ r ∷ x ∷ rest

abbrev pub ticks : ℕ → List ℕ → List ℕ
ticks n rest = 0x54 ∷ 0x4B ∷ n ∷ 0 ∷ rest

abbrev pub ask : ℕ → List ℕ → List ℕ
ask r rest = 0x51 ∷ 0x41 ∷ r ∷ rest

abbrev pub end : List ℕ
end = 0x4E ∷ 0x44 ∷ []

-- voice 0 plays noise that moves at every tick, at a level by GAIN; PMON as given; it first runs on tick 6
abbrev noise : ℕ → ℕ → List ℕ
noise gain pmon =
    put 0x6C 0x3F (put 0x3D 0x01 (put 0x07 gain (put 0x00 0x7F (put 0x01 0x7F (put 0x0C 0x7F (put 0x1C 0x7F (put 0x2D pmon (put 0x4C 0x01 (ticks 7 end)))))))))

abbrev pcm : List ℕ
pcm = replicate 28 0

abbrev noisy : Outcome
noisy = run_of new_dsp ram (noise 0x7F 0) pcm (replicate 252 0) []

abbrev sample_at : ℕ → List ℕ
sample_at t = take 4 (drop (t * 4) noisy.pcm)

abbrev row_at : ℕ → List ℕ
row_at t = take 36 (drop (t * 36) noisy.sheet)

-- ---- reworks of voice 0

-- from GAIN $7F to $40 over a sheet, with an end record
abbrev again : ℕ → Dsp → List ℕ → Left
again pmon was sheet = rework_of 0x01 new_dsp was ram (noise 0x7F pmon) (noise 0x40 pmon) pcm sheet []

-- a sheet that no run made
abbrev unmade : List ℕ
unmade = replicate 252 0x55

-- all eight voices run again over it
abbrev all_again : Outcome
all_again = run_of new_dsp ram (noise 0x40 0) pcm unmade []

-- ---- a mix that clamps in the middle

-- voices 0 and 1 together are below the range, and voice 2 brings them back
abbrev loud : Dsp
loud =
    (run_of new_dsp ram
    (put 0x6C 0x20 (put 0x3D 0x07 (put 0x07 0x7F (put 0x17 0x7F (put 0x27 0x7F (put 0x00 0x7F (put 0x10 0x7F (put 0x20 0x80 (put 0x0C 0x7F (put 0x4C 0x07 (ticks 6 end)))))))))))
    (replicate 24 0) (replicate 216 0) []
    ).dsp

-- the first n voices on the left, not clamped
unfoldable pub unclamped : List Voice → ℕ → ℤ
unclamped vs zero = pos 0
unclamped vs (suc n) = unclamped vs n +ℤ volumed (output_of (get_or vs n no_voice)) (get_or vs n no_voice).left_vol

abbrev clamped_once : Dsp → ℤ
clamped_once d = (master_of (globals_of d) (record { l = clamp16_z (unclamped d.voices 8); r = pos 0 })).l

-- ---- a voice in phase Off whose key_on is set

abbrev off_but_keyed : Voice
off_but_keyed =
    record {
      left_vol = pos 0;
      right_vol = pos 0;
      pitch = 0x1000;
      srcn = 0;
      key_on = true;
      pitch_counter = 0;
      current_sample = pos 0;
      history = replicate 4 (pos 0);
      adsr = new_adsr;
      brr = new_brr;
    }

abbrev power_on_with : Voice → Dsp
power_on_with v =
    together
    (record {
      registers = new_dsp.registers;
      voices = v ∷ replicate 7 new_voice;
      delays = new_dsp.kon_delay;
      taps = new_dsp.fir_coeff;
      left = new_dsp.fir_history_l;
      right = new_dsp.fir_history_r;
      globals = globals_of new_dsp;
    })

-- ---- an idle voice after RESET

abbrev after_reset : Outcome
after_reset = run_of new_dsp ram (put 0x6C 0x20 (put 0x07 0x7F (put 0x4C 0x01 (ticks 6 (put 0x6C 0xA0 (ticks 1 (ask 0x08 end))))))) pcm (replicate 252 0) (0 ∷ [])

-- ---- a chip that refuses all

abbrev refusing : Chip
refusing =
    record {
      write = λ index x d. record { refusal = 2; dsp = d };
      render = λ d. record { refusal = 2; left = pos 0; right = pos 0 };
      step = λ d ram. refused 1 d ram;
      ticks = λ w n d ram pcm sheet. undriven 1 d ram pcm sheet;
      measure = λ log. unmeasured 3;
      run = λ w d ram log pcm sheet readings. unrun 1 d ram pcm sheet readings;
      part = λ d at left ram log pcm. unparted 1 d at left ram pcm;
      rework = λ s start end ram log₁ log₂ pcm sheet readings. unreworked 1 start pcm sheet readings;
      rework_new = λ s ram log₁ log₂ pcm sheet readings. unreworked 1 new_dsp pcm sheet readings;
    }

-- ---- the list

pub record NotThrough : Type 0 where
  -- "a chip that refuses all": it fails demand 1, and these calls are not refused
  pub refuses_all : RefusesByTheTable refusing → ⊥
  pub taken : ((step_of new_dsp ram).refusal ≡ 0) × ((render_of new_dsp).refusal ≡ 0) × (noisy.refusal ≡ 0) × ((again 0 noisy.dsp noisy.sheet).refusal ≡ 0)
  -- "silence or one fixed sample"
  pub sounds : sample_at 5 ≢ 0 ∷ 0 ∷ 0 ∷ 0 ∷ []
  pub moves : sample_at 5 ≢ sample_at 6
  -- "a step that leaves the record as it was"
  pub steps : (step_of new_dsp ram).dsp ≢ new_dsp
  -- "a run that works its first tick and copies it on"
  pub goes_on : row_at 5 ≢ row_at 0
  -- "a rework that leaves the sheet as found"
  pub rewrites : (again 0 noisy.dsp noisy.sheet).sheet ≢ noisy.sheet
  -- "or reports an invented number of voices": without pitch modulation, and where PMON ties voice 1 to voice 0
  pub counts : ((again 0 new_dsp unmade).count ≡ 1) × ((again 0x02 new_dsp unmade).count ≡ 2)
  -- "one that reruns all eight voices"
  pub only_named : (again 0 new_dsp unmade).sheet ≢ all_again.sheet
  -- "Clamping the mix once at the end"
  pub clamps_each : (render_of loud).left ≢ clamped_once loud
  -- "Stopping a voice whenever its phase is Off"
  pub keeps_on : get_or (step_of (power_on_with off_but_keyed) ram).dsp.voices 0 no_voice ≢ off_but_keyed
  -- "Refreshing ENVX of an idle voice after RESET": it would read 0
  pub untouched : after_reset.readings ≢ 0 ∷ []
