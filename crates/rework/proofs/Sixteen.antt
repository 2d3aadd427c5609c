-- Numbers of 16 bits: they are read back from their two bytes; a voice's output and the echo's have 16 bits, and so has a voice's sample after a tick.
use Rattle.std.proofs.Common.{if◌then◌else◌}
use mathlib.Core.Bool.{Bool, not, ◌&&◌}
use mathlib.Core.List.{List}
use mathlib.Core.Path.{◌≡◌, refl, ap}
use Prim.Native.Nat.{ℕ, suc, ◌+◌, ◌-◌, ◌*◌, ◌/◌, ◌%◌, ◌^◌, ◌≤◌, ◌<◌}
use native.Mathlib.Nat.{le_refl}
use native.Mathlib.Omega.{arith}
use borrow.Author.Tests.{lt-ltb, le-ltb}
use lib.IntN.{ℤ, pos, negsuc, ◌+ℤ◌, ◌*ℤ◌}
use lib.ListN.{get_or}
use lib.Signed.{mag}
use Rattle.numbers.specs.Choice.{◌=?◌}
use Rattle.numbers.specs.Signed.{minus, ◌>>◌, clamp16_z, mod_z, low_z, high_z}
use Rattle.numbers.proofs.Choice.{chosen}
use Rattle.numbers.proofs.Range.{times_law, shr_law}
use Rattle.numbers.proofs.Cut.{cut_z-any}
use Rattle.numbers.proofs.Clamp.{clamp_within}
use Rattle.numbers.specs.Bits.{bit}
use Rattle.sound.specs.Sound.{to16, even, joined, levelled_z, fir_tap, fir_sum, fir_of}
use Rattle.dsp.specs.Noise.{noise_sample, Noise}
use Rattle.dsp.specs.With.{with_envelope}
use Rattle.dsp.specs.Envelope.{is_off, envelope_tick}
use Rattle.dsp.specs.Keys.{keyed_off, keyed_on, polled_delay}
use Rattle.dsp.specs.Interpolation.{tap_z}
use Rattle.dsp.specs.Voice.{Sounding, Stepped, advanced, resolved, interpolated, idle, shown, sounded, voice_step, PitchSource}
use Rattle.dsp.specs.Mix.{scaled_output}
use Rattle.dsp.specs.Lane.{Cell, Waiting, waited, noised, polled_of, waited_of, cell_after, cell_of, own_cell, shown_cell, Shared}
use Rattle.dsp.specs.declared.adsr.EnvelopePhase.{EnvelopePhase}
use Rattle.dsp.specs.declared.voice.Voice.{Voice}
use Rattle.dsp.proofs.Outputs.{level_law}

abbrev pub Is16 : ℤ → Type 0
Is16 x = to16 x ≡ x

-- ---- the range

pub is16 : (x : ℤ) → mag x < 0x8000 → to16 x ≡ x
is16 (pos n) h = let e : n % 0x10000 ≡ n = omega arith in rw (e, lt-ltb n 0x8000 h)
is16 (negsuc n) h =
    let m = 0x10000 - suc (n % 0x10000) in
    let l : 0x8000 ≤ m = omega arith in
    let e : 0x10000 - m ≡ suc n = omega arith in
    rw (le-ltb m 0x8000 l) (ap minus e)

-- whatever is cut
cut_small : (x : ℤ) → mag (to16 x) < 0x8000
cut_small x = let h = (cut_z-any 0x8000 tt x (mag x) (le_refl (mag x)) tt).1 in omega arith

pub small16 : (x : ℤ) → to16 x ≡ x → mag x < 0x8000
small16 x e = rw e at (cut_small x)

pub cut16 : (x : ℤ) → Is16 (to16 x)
cut16 x = is16 (to16 x) (cut_small x)

pub clamped16 : (x : ℤ) → Is16 (clamp16_z x)
clamped16 x = let h = (clamp_within x).le in is16 (clamp16_z x) (omega arith)

-- ---- two bytes

bytes_of : (n : ℕ) → n % 0x100 + 0x100 * (n / 0x100 % 0x100) ≡ n % 0x10000
bytes_of n = omega arith

halves : (x : ℤ) → low_z x + 0x100 * high_z x ≡ mod_z x 0x10000
halves (pos n) = bytes_of n
halves (negsuc n) = omega (arith, bytes_of n)

mod_small : (x : ℤ) → mod_z x 0x10000 < 0x10000
mod_small (pos n) = omega arith
mod_small (negsuc n) = omega arith

-- a number of 16 bits is read back from its low byte and its high byte
pub joined_halves : (x : ℤ) → to16 x ≡ x → joined (low_z x) (high_z x) ≡ x
joined_halves x h =
    let l = mod_small x in
    let m : mod_z x 0x10000 % 0x10000 ≡ mod_z x 0x10000 = omega arith in
    rw (halves x, m) h

-- ---- outputs

-- an output has 16 bits where its sample has and its level is fit
pub output16 : (phase : EnvelopePhase) (level : ℕ) (sample : ℤ) → level ≤ 0x800 → to16 sample ≡ sample → to16 (scaled_output phase level sample) ≡ scaled_output phase level sample
unfolding scaled_output
output16 phase level sample l h =
    let m = small16 sample h in
    let p = (level_law level l sample 0x7FFF (omega arith) tt).1 in
    let s = (shr_law (2 ^ 11) (sample *ℤ pos level) (0x800 * suc 0x7FFF - 1) p tt).1 in
    chosen Is16 (is_off phase) refl (is16 (levelled_z sample level) (omega arith))

even16 : (x : ℤ) → to16 x ≡ x → Is16 (even x)
even16 x h =
    let m = small16 x h in
    let s = (shr_law 2 x 0x7FFF (omega arith) tt).1 in
    let t = (times_law 2 (x >> 1) 0x3FFF (omega arith) tt).1 in
    is16 (even x) (omega arith)

pub fir16 : (h t : List ℤ) → to16 (fir_of h t) ≡ fir_of h t
unfolding fir_of
fir16 h t = let s = to16 (fir_sum h t 7) +ℤ to16 (fir_tap (get_or h 7 (pos 0)) (get_or t 7 (pos 0))) in even16 (clamp16_z s) (clamped16 s)

pub noise16 : (n : Noise) → Is16 (noise_sample n)
noise16 n = cut16 (pos (2 * n.lfsr))

-- ---- a voice's sample

abbrev Sample16 : Voice → Type 0
Sample16 v = Is16 v.current_sample

polled16 : (c : Shared) (j : ℕ) (v : Voice) (endx : Bool) → Sample16 v → Sample16 (polled_of c j v endx).voice
unfolding polled_of keyed_on keyed_off
polled16 c j v endx h = chosen Sample16 (bit c.kon j) refl (chosen Sample16 (bit c.koff j && not (is_off v.adsr.envelope_phase)) h h)

interpolated16 : (v : Voice) → Sample16 (interpolated v)
unfolding interpolated
interpolated16 v =
    let i = v.pitch_counter / 16 % 256 in
    let h = v.history in
    clamped16 (to16 (tap_z (255 - i) (get_or h 0 (pos 0)) +ℤ tap_z (511 - i) (get_or h 1 (pos 0)) +ℤ tap_z (i + 256) (get_or h 2 (pos 0))) +ℤ tap_z i (get_or h 3 (pos 0)))

-- an idle voice keeps its sample, any other's is interpolated
step16 : (ram : List ℕ) (dir srcn : ℕ) (x : PitchSource) (envx : ℕ) (s : Sounding) → Sample16 s.voice → Sample16 (voice_step ram dir srcn x envx s).sounding.voice
unfolding voice_step sounded
step16 ram dir srcn x envx s h =
    let e : Sounding = record { voice = with_envelope s.voice (envelope_tick s.voice.adsr); endx = s.endx } in
    let t = advanced ram dir srcn x (resolved ram e) in
    chosen (λ (t : Stepped). Sample16 t.sounding.voice) (idle e.voice) {x = record { sounding = e; envx = envx }} {y = shown t} h (interpolated16 t.voice)

waited16 : (c : Shared) (ram : List ℕ) (j : ℕ) (prev : ℤ) (v : Voice) (delay srcn envx : ℕ) (endx : Bool) → Sample16 v
    → Sample16 (waited_of c ram j prev v delay srcn envx endx).sounding.voice
unfolding waited_of waited
waited16 c ram j prev v delay srcn envx endx h =
    let p = polled16 c j v endx h in
    chosen (λ (w : Waiting). Sample16 w.sounding.voice) (polled_delay (bit c.kon j) delay =? 0) (step16 ram c.dir srcn _ envx _ p) p

-- the sample that a tick leaves: worked, or shown from the sheet
pub sample16 : (worked : Bool) (c : Shared) (ram : List ℕ) (j : ℕ) (prev : ℤ) (v : Voice) (delay : ℕ) (bytes slot : List ℕ) → Is16 c.noise → Is16 v.current_sample
    → Is16 (if worked then own_cell c ram j prev v delay bytes else shown_cell slot v delay).voice.current_sample
unfolding own_cell cell_of cell_after noised shown_cell
sample16 worked c ram j prev v delay bytes slot n h =
    chosen (λ (x : Cell). Is16 x.voice.current_sample) worked
    (chosen Is16 (bit c.non j) n (waited16 c ram j prev v delay _ _ _ h))
    h
