-- The envelope: ADSR and GAIN. What happens at a step stands apart from when it happens (`timed`).
use Rattle.std.specs.Prelude.{Bool, true, false, not, ◌&&◌, ℕ, ◌+◌, ◌-◌, ◌*◌, ◌/◌, ◌%◌, if◌then◌else◌}
use Rattle.numbers.specs.Choice.{◌≤?◌, ◌=?◌}
use Rattle.numbers.specs.Bits.{bit}
use Rattle.sound.specs.Envelope.{lowered, gained}
use Rattle.dsp.specs.Clock.{fires, counted_on}
use Rattle.dsp.specs.With.{with_state}
use Rattle.dsp.specs.declared.adsr.EnvelopePhase.{EnvelopePhase}
use Rattle.dsp.specs.declared.adsr.EnvelopePhase.TheVariants.{Attack, Decay, Sustain, Release, Off}
use Rattle.dsp.specs.declared.adsr.Adsr.{Adsr}

-- ---- when: a step waits until its entry of the tick periods fires

abbrev pub counted : Adsr → ℕ → Adsr
counted a counter = with_state a a.envelope_level a.envelope_phase counter

abbrev pub timed : ℕ → (Adsr → Adsr) → Adsr → Adsr
timed entry step a =
    if fires a.tick_counter entry then step (counted a (counted_on a.tick_counter entry)) else
    counted a (counted_on a.tick_counter entry)

-- ---- what: the steps

abbrev pub levelled : Adsr → ℕ → Adsr
levelled a level = with_state a level a.envelope_phase a.tick_counter

-- cap $7FF; reaching it starts Decay with counter 0
unfoldable pub risen : ℕ → Adsr → Adsr
risen by a =
    if 0x7FF ≤? a.envelope_level + by then with_state a 0x7FF Decay 0 else
    levelled a (a.envelope_level + by)

-- at or below the target takes that value, may rise, starts Sustain with counter 0
unfoldable pub settled : ℕ → Adsr → Adsr
settled target a =
    if lowered a.envelope_level ≤? target then with_state a target Sustain 0 else
    levelled a (lowered a.envelope_level)

-- 0 is Off
unfoldable pub fallen_to : ℕ → Adsr → Adsr
fallen_to level a =
    if level =? 0 then with_state a 0 Off a.tick_counter else
    levelled a level

abbrev pub faded : Adsr → Adsr
faded a = fallen_to (lowered a.envelope_level) a

abbrev pub ramped : ℕ → Adsr → Adsr
ramped mode a = levelled a (gained mode a.envelope_level)

-- ---- one tick

-- rate 15 adds 1024 at once, else 32 at entry 2 · rate + 1
unfoldable pub attack_tick : Adsr → Adsr
attack_tick a =
    if a.attack_rate =? 15 then risen 1024 a else
    timed (2 * a.attack_rate + 1) (risen 32) a

-- down to (sustain level + 1) · $100
unfoldable pub decay_tick : Adsr → Adsr
decay_tick a = timed (2 * a.decay_rate + 16) (settled ((a.sustain_level + 1) * 0x100)) a

unfoldable pub sustain_tick : Adsr → Adsr
sustain_tick a = timed a.sustain_rate faded a

-- 8 less each tick
unfoldable pub release_tick : Adsr → Adsr
release_tick a = fallen_to (a.envelope_level - 8) a

-- with bit 7 clear the level is 16 · value, of bits 6-0; else a ramp at entry bits 4-0, by bits 6-5. No phase change
unfoldable pub gain_tick : Adsr → Adsr
gain_tick a =
    if bit a.gain_param 7 then timed (a.gain_param % 32) (ramped (a.gain_param / 32 % 4)) a else
    levelled a (16 * (a.gain_param % 128))

abbrev pub is_off : EnvelopePhase → Bool
is_off Attack = false
is_off Decay = false
is_off Sustain = false
is_off Release = false
is_off Off = true

-- the first three phases
abbrev pub is_held : EnvelopePhase → Bool
is_held Attack = true
is_held Decay = true
is_held Sustain = true
is_held Release = false
is_held Off = false

-- GAIN replaces the first three phases
abbrev pub gains : Adsr → Bool
gains a = is_held a.envelope_phase && not a.adsr_mode

unfoldable pub phase_tick : EnvelopePhase → Adsr → Adsr
phase_tick Attack a = attack_tick a
phase_tick Decay a = decay_tick a
phase_tick Sustain a = sustain_tick a
phase_tick Release a = release_tick a
phase_tick Off a = a

unfoldable pub envelope_tick : Adsr → Adsr
envelope_tick a =
    if gains a then gain_tick a else
    phase_tick a.envelope_phase a
