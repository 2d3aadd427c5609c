-- A tick keeps an envelope, and the noise, fit.
use mathlib.Core.Bool.{not, ◌&&◌}
use Prim.Native.Nat.{ℕ, ◌+◌, ◌-◌, ◌*◌, ◌/◌, ◌%◌, ◌≤◌, ◌<◌}
use native.Mathlib.Omega.{arith}
use borrow.Author.Tests.{leb-false}
use Rattle.numbers.specs.Choice.{◌≤?◌, ◌=?◌}
use Rattle.numbers.specs.Bits.{bit}
use Rattle.numbers.proofs.Choice.{tested, chosen}
use Rattle.sound.specs.Clock.{period_of}
use Rattle.sound.specs.Envelope.{lowered}
use Rattle.sound.proofs.Bounds.{period_le, lowered_le, gained_le, shifted_le}
use Rattle.dsp.specs.Clock.{fires, counted_on}
use Rattle.dsp.specs.Noise.{Noise, noise_tick}
use Rattle.dsp.specs.Fit.{FitAdsr}
use Rattle.dsp.specs.Envelope.{counted, timed, risen, settled, fallen_to, faded, ramped, gains, attack_tick, decay_tick, sustain_tick, release_tick, gain_tick, phase_tick, envelope_tick}
use Rattle.dsp.specs.declared.adsr.EnvelopePhase.{EnvelopePhase}
use Rattle.dsp.specs.declared.adsr.EnvelopePhase.TheVariants.{Attack, Decay, Sustain, Release, Off}
use Rattle.dsp.specs.declared.adsr.Adsr.{Adsr}
use Rattle.dsp.proofs.Fits.{most_of}

-- ---- the clock

pub counter-kept : (c n : ℕ) → c ≤ 2047 → counted_on c n ≤ 2047
unfolding counted_on fires
counter-kept c n h =
    let P : ℕ → Type 0 = λ (k : ℕ). k ≤ 2047 in
    let p = period_le n in
    tested P (not (period_of n =? 0) && (period_of n ≤? c + 1)) (λ e. omega arith)
    (λ e. tested P (period_of n =? 0) (λ z. h) (λ z. let l : c + 1 < period_of n = leb-false _ _ (rw z at e) in omega arith))

-- ---- the envelope: its settings stay

-- a step that keeps fit envelopes fit does so under the clock
timed-fit : (n : ℕ) (step : Adsr → Adsr) (a : Adsr) → ((b : Adsr) → FitAdsr b → FitAdsr (step b)) → FitAdsr a → FitAdsr (timed n step a)
timed-fit n step a k h =
    let b = counted a (counted_on a.tick_counter n) in
    let c : FitAdsr b = (h.0, (counter-kept a.tick_counter n h.1.0, h.1.1)) in
    chosen FitAdsr (fires a.tick_counter n) (k b c) c

risen-fit : (by : ℕ) (a : Adsr) → FitAdsr a → FitAdsr (risen by a)
unfolding risen
risen-fit by a h =
    tested FitAdsr (0x7FF ≤? a.envelope_level + by) (λ e. (omega arith, (omega arith, h.1.1)))
    (λ e. let l : a.envelope_level + by < 0x7FF = leb-false _ _ e in (omega arith, h.1))

settled-fit : (target : ℕ) → target ≤ 0x800 → (a : Adsr) → FitAdsr a → FitAdsr (settled target a)
unfolding settled
settled-fit target t a h =
    let l = lowered_le a.envelope_level in
    chosen FitAdsr (lowered a.envelope_level ≤? target) (t, (omega arith, h.1.1)) (omega arith, h.1)

fallen_fit : (l : ℕ) (a : Adsr) → l ≤ 0x800 → FitAdsr a → FitAdsr (fallen_to l a)
unfolding fallen_to
fallen_fit l a k h = chosen FitAdsr (l =? 0) (omega arith, h.1) (k, h.1)

faded-fit : (a : Adsr) → FitAdsr a → FitAdsr (faded a)
faded-fit a h = let l = lowered_le a.envelope_level in fallen_fit (lowered a.envelope_level) a (omega arith) h

gain-fit : (a : Adsr) → FitAdsr a → FitAdsr (gain_tick a)
unfolding gain_tick
gain-fit a h =
    let m = a.gain_param / 32 % 4 in
    chosen FitAdsr (bit a.gain_param 7) (timed-fit (a.gain_param % 32) (ramped m) a (λ b k. (gained_le m b.envelope_level k.0, k.1)) h)
    (omega arith, h.1)

phase_fit : (p : EnvelopePhase) (a : Adsr) → FitAdsr a → FitAdsr (phase_tick p a)
unfolding phase_tick attack_tick decay_tick sustain_tick release_tick
phase_fit Attack a h = chosen FitAdsr (a.attack_rate =? 15) (risen-fit 1024 a h) (timed-fit (2 * a.attack_rate + 1) (risen 32) a (risen-fit 32) h)
phase_fit Decay a h =
    let target = (a.sustain_level + 1) * 0x100 in
    timed-fit (2 * a.decay_rate + 16) (settled target) a (settled-fit target (omega arith)) h
phase_fit Sustain a h = timed-fit a.sustain_rate faded a faded-fit h
phase_fit Release a h = fallen_fit (a.envelope_level - 8) a (omega arith) h
phase_fit Off a h = h

pub fit-kept_envelope : (a : Adsr) → FitAdsr a → FitAdsr (envelope_tick a)
unfolding envelope_tick
fit-kept_envelope a h = chosen FitAdsr (gains a) (gain-fit a h) (phase_fit a.envelope_phase a h)

-- ---- the noise

pub fit-kept-noise : (flg : ℕ) (n : Noise) → n.lfsr ≤ 0x7FFF → n.counter ≤ 2047 → ((noise_tick flg n).lfsr ≤ 0x7FFF) × ((noise_tick flg n).counter ≤ 2047)
unfolding noise_tick
fit-kept-noise flg n l c =
    (most_of 0x7FFF (fires n.counter (flg % 32)) (shifted_le n.lfsr l) l, counter-kept n.counter (flg % 32) c)
