-- What ticks and writes keep, a play keeps; and so a run ends in a fit record whose ENDX byte is a byte.
use mathlib.Core.Bool.{Bool, true}
use mathlib.Core.List.{List, [], ◌∷◌}
use mathlib.Core.Logic.{◌≢◌}
use mathlib.Core.Path.{◌≡◌, refl}
use Prim.Native.Nat.{ℕ, zero, suc, ◌+◌, ◌*◌, ◌<◌}
use native.Mathlib.Omega.{arith}
use lib.IntN.{ℤ}
use lib.ListN.{get_or, set, length, drop, replicate}
use lib.Seq.{get_or-set_other}
use Rattle.numbers.specs.Choice.{◌=?◌}
use Rattle.numbers.specs.Signed.{high_z}
use Rattle.numbers.proofs.Choice.{chosen}
use Rattle.numbers.specs.Bits.{with_bit}
use Rattle.numbers.proofs.Bits.{with_byte}
use Rattle.sound.specs.Sound.{to16}
use Rattle.dsp.specs.Machine.{no_voice, Parts, apart, together}
use Rattle.dsp.specs.PowerOn.{new_voice, new_dsp}
use Rattle.dsp.specs.Fit.{fit}
use Rattle.dsp.specs.Registers.{at, resets, endx_write, write_parts}
use Rattle.dsp.specs.Lane.{put_bytes, turned}
use Rattle.dsp.specs.Tick.{Round, turn, voices_tick, shared_of, start_of, tick_of}
use Rattle.dsp.specs.Ticks.{Bench, bench_tick}
use Rattle.dsp.specs.declared.voice.Voice.{Voice}
use Rattle.dsp.specs.declared.registers.Dsp.{Dsp}
use Rattle.dsp.specs.declared.tick.Work.{Work}
use Rattle.numbers.proofs.Turns.{turns_keep, set_keeps}
use Rattle.dsp.proofs.Fits.{fit_facts, facts_fit}
use Rattle.dsp.proofs.Ticks.{fit-kept-bench}
use Rattle.rework.specs.Differ.{Value}
use Rattle.rework.proofs.Tape.{Beat, put, tick, ask, Small, tape}
use Rattle.rework.proofs.Right.{Good, good_start, good_tick, good_write}
use Rattle.rework.proofs.Kept.{Sized}

pub tape_keeps : (w : Work) (P : Parts → List ℕ → Type 0) → ((old : List ℕ) (p : Parts) (ram : List ℕ) → P p ram → P (tick_of w old p ram).parts (tick_of w old p ram).ram)
    → ((i x : ℕ) (p : Parts) (ram : List ℕ) → i < 128 → x < 256 → P p ram → P (write_parts i x p) ram)
    → (bs : List Beat) (old : List ℕ) (p : Parts) (ram : List ℕ) → Small bs → P p ram → P (tape w bs old p ram).parts (tape w bs old p ram).ram
unfolding tape Small
tape_keeps w P t u [] old p ram s h = h
tape_keeps w P t u (put i x ∷ bs) old p ram s h = tape_keeps w P t u bs old (write_parts i x p) ram s.2 (u i x p ram s.0 s.1 h)
tape_keeps w P t u (tick ∷ bs) old p ram s h = tape_keeps w P t u bs (drop 36 old) (tick_of w old p ram).parts (tick_of w old p ram).ram s (t old p ram h)
tape_keeps w P t u (ask r ∷ bs) old p ram s h = tape_keeps w P t u bs old p ram s h

-- ---- lengths, fit, samples of 16 bits, and an ENDX byte

pub record Whole (p : Parts) (ram : List ℕ) : Type 0 where
  pub good : Good p
  pub endx : get_or p.registers 0x7C 0 < 256
  pub room : length ram ≡ 0x10000

endx-put : (j envx : ℕ) (out : ℤ) (endx : Bool) (b : List ℕ) → j < 8 → get_or b 0x7C 0 < 256 → get_or (put_bytes j envx out endx b) 0x7C 0 < 256
unfolding put_bytes
endx-put j envx out endx b l h =
    let n : 0x7C ≢ j * 16 + 8 = (λ e. absurd (omega arith)) in
    let m : 0x7C ≢ j * 16 + 9 = (λ e. absurd (omega arith)) in
    let z = set (set b (j * 16 + 8) envx) (j * 16 + 9) (high_z out) in
    let k : get_or z 0x7C 0 < 256 = simp get_or-set_other h in
    set_keeps (λ (v : ℕ). v < 256) 0 z 0x7C (with_bit (get_or z 0x7C 0) j endx) (with_byte (get_or z 0x7C 0) j endx k l) 0x7C k

endx_tick : (w : Work) (old : List ℕ) (p : Parts) (ram : List ℕ) → get_or p.registers 0x7C 0 < 256 → get_or (tick_of w old p ram).parts.registers 0x7C 0 < 256
unfolding tick_of voices_tick turn turned
endx_tick w old p ram h =
    let c = shared_of p.globals p.registers in
    turns_keep (λ (r : Round). get_or r.bytes 0x7C 0 < 256) (turn w.voices old c ram) 8 (λ j r l. endx-put j _ _ _ r.bytes l) 8 (start_of p) (omega arith) h

endx-write : (i x : ℕ) (p : Parts) → x < 256 → get_or p.registers 0x7C 0 < 256 → get_or (write_parts i x p).registers 0x7C 0 < 256
unfolding write_parts
endx-write i x p l h =
    let P : ℕ → Type 0 = (λ v. v < 256) in
    chosen (λ (b : List ℕ). get_or b 0x7C 0 < 256) (resets i x)
    (set_keeps P 0 (set p.registers i x) 0x7C 0 (omega arith) 0x7C (set_keeps P 0 p.registers i x l 0x7C h))
    (set_keeps P 0 p.registers i (at i 0x7C (endx_write x) x) (chosen P (i =? 0x7C) (omega arith) l) 0x7C h)

pub whole_tick : (w : Work) (old : List ℕ) (p : Parts) (ram : List ℕ) → Whole p ram → Whole (tick_of w old p ram).parts (tick_of w old p ram).ram
unfolding bench_tick
whole_tick w old p ram h =
    let b : Bench = record { parts = p; ram = ram; pcm = []; sheet = []; old = old } in
    record {
      good = good_tick w old p ram h.room h.good;
      endx = endx_tick w old p ram h.endx;
      room = (fit-kept-bench w b (record { ram = h.room; round = h.good.round.fit; globals = h.good.globals })).ram;
    }

pub whole_write : (i x : ℕ) (p : Parts) (ram : List ℕ) → i < 128 → x < 256 → Whole p ram → Whole (write_parts i x p) ram
whole_write i x p ram li lx h = record { good = good_write i x p li lx h.good; endx = endx-write i x p lx h.endx; room = h.room }

pub whole_tape : (w : Work) (bs : List Beat) (old : List ℕ) (p : Parts) (ram : List ℕ) → Small bs → Whole p ram → Whole (tape w bs old p ram).parts (tape w bs old p ram).ram
whole_tape w = tape_keeps w Whole (whole_tick w) whole_write

-- the parts of a fit record of the language
pub whole_start : (d : Dsp) (ram : List ℕ) → Value (apart d) → fit d ≡ true → length ram ≡ 0x10000 → Whole (apart d) ram
whole_start d ram v f r = record { good = good_start d v (fit_facts d f); endx = v.bytes 0x7C; room = r }

pub whole_fit : {p : Parts} {ram : List ℕ} → Whole p ram → fit (together p) ≡ true
whole_fit {p} h = facts_fit (together p) (record { globals = h.good.globals; voices = h.good.round.fit.voices; delays = h.good.round.fit.delays })

pub whole_sized : {p : Parts} {ram : List ℕ} → Whole p ram → Sized p
whole_sized h = record { registers = h.good.round.fit.bytes; voices = h.good.round.fit.count; delays = h.good.round.fit.waits }

-- ---- the power-on record is one of the language

all_in : {A : Type 0} (P : A → Type 0) (k : ℕ) (x d : A) → P x → P d → (n : ℕ) → P (get_or (replicate k x) n d)
all_in P zero x d p q n = q
all_in P (suc k) x d p q zero = p
all_in P (suc k) x d p q (suc n) = all_in P k x d p q n

abbrev Sample : Voice → Type 0
Sample v = to16 v.current_sample ≡ v.current_sample

pub new_value : Value (apart new_dsp)
new_value =
    record {
      registers = refl;
      bytes = λ n. set_keeps (λ (v : ℕ). v < 256) 0 (replicate 128 0) 0x6C 0xE0 (omega arith) n (all_in (λ (v : ℕ). v < 256) 128 0 0 (omega arith) (omega arith) n);
      voices = refl;
      delays = refl;
      samples = λ j l. all_in Sample 8 new_voice no_voice refl refl j;
    }
