-- A tick of the machine: what it keeps, and how its parts make the definition.
use Rattle.std.proofs.Common.{if◌then◌else◌}
use mathlib.Core.Bool.{Bool, true, false, ◌&&◌}
use mathlib.Core.List.{List, [], ◌∷◌}
use mathlib.Core.Path.{◌≡◌, refl, sym, ap, ◌∙◌}
use Prim.Native.Nat.{ℕ, zero, suc, ◌+◌, ◌/◌, ◌%◌, ◌^◌, ◌≤◌, ◌<◌}
use native.Mathlib.Omega.{arith}
use native.Mathlib.Nat.{zero-div}
use borrow.Author.Tests.{ne_eqb}
use lib.IntN.{ℤ}
use lib.ListN.{get_or, length, length-set, length-map}
use Rattle.numbers.specs.Choice.{◌<?◌}
use Rattle.numbers.proofs.Choice.{chosen}
use Rattle.numbers.specs.Bits.{bit}
use Rattle.numbers.specs.Listed.{turns}
use Rattle.dsp.specs.Machine.{no_voice, apart, together, Globals}
use Rattle.dsp.specs.Fit.{delay_rule, Facts, FitVoice, FitGlobals, Fit}
use Rattle.dsp.specs.Ram.{stored_from}
use Rattle.dsp.specs.Registers.{resets, write_parts, write_at}
use Rattle.dsp.specs.Mix.{Stereo, silent}
use Rattle.dsp.specs.Sheet.{pair_bytes, lane_at}
use Rattle.dsp.specs.Echo.{echo_base, EchoLane, echo_tick, echo_written, echo_from, echo_lane}
use Rattle.dsp.specs.Lane.{Shared, polled_of, waited_of, cell_after, cell_of, own_cell, put_bytes, added, turned}
use Rattle.dsp.specs.Tick.{Round, turn, voices_tick, globals_tick, shared_of, mixed, tick_of, start_of}
use Rattle.dsp.specs.Ticks.{Bench, onward, bench_tick, bench_write, ticks_of}
use Rattle.dsp.specs.Inside.{heard}
use Rattle.dsp.specs.declared.voice.Voice.{Voice}
use Rattle.dsp.specs.declared.registers.Dsp.{Dsp}
use Rattle.dsp.specs.declared.tick.Work.{Work}
use Rattle.numbers.proofs.Turns.{turns_keep, turns-through, set_keeps}
use Rattle.dsp.proofs.Fits.{fit-kept-write}
use Rattle.dsp.proofs.Envelopes.{fit-kept-noise}
use Rattle.dsp.proofs.Echoes.{fit-kept-echo}
use Rattle.dsp.proofs.Lanes.{fit-kept_either}

-- ---- the voices

-- the arrays have their lengths, and every voice and delay is fit
pub record RoundFit (r : Round) : Type 0 where
  pub bytes : length r.bytes ≡ 128
  pub count : length r.voices ≡ 8
  pub waits : length r.delays ≡ 8
  pub voices : (n : ℕ) → FitVoice (get_or r.voices n no_voice)
  pub delays : (n : ℕ) → Facts (delay_rule (get_or r.delays n 0))

module _ (mask : ℕ) (old : List ℕ) (c : Shared) (ram : List ℕ) where
  pub fit-kept-turn : (j : ℕ) (r : Round) → j < 8 → RoundFit r → RoundFit (turn mask old c ram j r)
  unfolding turn turned put_bytes
  fit-kept-turn j r l h =
      let k = fit-kept_either (bit mask j) c ram j r.sums.prev _ _ r.bytes (lane_at j old) (h.voices j) (h.delays j).0 in
      record {
        bytes = simp length-set h.bytes;
        count = simp length-set h.count;
        waits = simp length-set h.waits;
        voices = λ n. set_keeps FitVoice no_voice r.voices j _ k.voice n (h.voices n);
        delays = λ n. set_keeps (λ (e : ℕ). Facts (delay_rule e)) 0 r.delays j _ (k.delay, tt) n (h.delays n);
      }

  pub fit-kept-turns : (n : ℕ) (r : Round) → n ≤ 8 → RoundFit r → RoundFit (turns (turn mask old c ram) n r)
  fit-kept-turns = turns_keep RoundFit (turn mask old c ram) 8 fit-kept-turn

-- ---- the machine

pub globals-kept : (g : Globals) → FitGlobals g → FitGlobals (globals_tick g)
unfolding globals_tick
globals-kept g h = let n = fit-kept-noise g.flg g.noise h.1.0 h.0 in (n.1, (n.0, h.1.1))

stored_sized : (a : ℕ) (xs ram : List ℕ) → length (stored_from a xs ram) ≡ length ram
unfolding stored_from
stored_sized a [] ram = refl
stored_sized a (x ∷ xs) ram = stored_sized (a + 1) xs _ ∙ length-set ram _ x

written_sized : (g : Globals) (ram : List ℕ) (l r : ℤ) → length (echo_written g ram l r) ≡ length ram
unfolding echo_written
written_sized g ram l r = chosen (λ (xs : List ℕ). length xs ≡ length ram) (bit g.flg 5) refl (stored_sized (echo_base g) (pair_bytes l r) ram)

-- RAM keeps its length, and the echo's numbers stay fit
pub record EchoFit (size : ℕ) (e : EchoLane) : Type 0 where
  pub ram : length e.echo.ram ≡ size
  pub globals : FitGlobals e.echo.globals

pub fit-kept-echo_lane : (worked : Bool) (g : Globals) (taps left right : List ℤ) (ram : List ℕ) (input : Stereo) (slot : List ℕ) → FitGlobals g
    → EchoFit (length ram) (echo_lane worked g taps left right ram input slot)
unfolding echo_lane echo_tick echo_from
fit-kept-echo_lane worked g taps left right ram input slot f =
    chosen (EchoFit (length ram)) worked
    (record { ram = written_sized _ _ _ _; globals = fit-kept-echo _ _ _ f })
    (record { ram = refl; globals = f })

pub record BenchFit (b : Bench) : Type 0 where
  pub ram : length b.ram ≡ 0x10000
  pub round : RoundFit (start_of b.parts)
  pub globals : FitGlobals b.parts.globals

-- ---- a tick that does not work the echo does not see the input that is summed for it

abbrev mute : Round → Round
mute r =
    record {
      voices = r.voices;
      delays = r.delays;
      bytes = r.bytes;
      sums = record { prev = r.sums.prev; dry = r.sums.dry; input = silent };
      row = r.row;
    }

no_bit : (n : ℕ) → bit 0 n ≡ false
no_bit n = ne_eqb (0 / 2 ^ n % 2) 1 (λ (e : 0 / 2 ^ n % 2 ≡ 1). let z : 0 / 2 ^ n ≡ 0 = zero-div (2 ^ n) in omega arith)

-- whether a voice is summed for an echo that is worked or not
pub heard-bit : (echo : Bool) (eon j : ℕ) → (echo && bit eon j) ≡ bit (if echo then eon else 0) j
heard-bit true eon j = refl
heard-bit false eon j = sym (no_bit j)

mute_turn : (mask : ℕ) (old : List ℕ) (c : Shared) (ram : List ℕ) (j : ℕ) (r : Round) → turn mask old (heard false c) ram j (mute r) ≡ mute (turn mask old c ram j r)
unfolding turn turned own_cell cell_of cell_after waited_of polled_of added
mute_turn mask old c ram j r = rw (no_bit j)

unheard : (echo : Bool) (b : Bench) (w : ℕ) (g : Globals) (c : Shared)
    → (let round : Shared → Round = λ (d : Shared). turns (turn w b.old d b.ram) 8 (start_of b.parts) in
    let ends : Round → Bench = λ (r : Round). onward b (mixed b.parts.taps r (echo_lane echo g b.parts.taps b.parts.left b.parts.right b.ram r.sums.input (lane_at 8 b.old))) in
    ends (round (heard echo c)) ≡ ends (round c))
unfolding echo_lane
unheard true b w g c = refl
unheard false b w g c =
    ap (λ (r : Round). onward b (mixed b.parts.taps r (echo_lane false g b.parts.taps b.parts.left b.parts.right b.ram r.sums.input (lane_at 8 b.old))))
    (turns-through mute (turn w b.old c b.ram) (turn w b.old (heard false c) b.ram) (mute_turn w b.old c b.ram) 8 (start_of b.parts))

-- the parts of a tick make it; where it does not work the echo, no input was summed
pub glued : (w : Work) (b : Bench) (h : Globals) (c : Shared) (r : Round) (e : EchoLane) → h ≡ globals_tick b.parts.globals
    → c ≡ heard w.echo (shared_of b.parts.globals b.parts.registers)
    → r ≡ turns (turn w.voices b.old c b.ram) 8 (start_of b.parts)
    → e ≡ echo_lane w.echo h b.parts.taps b.parts.left b.parts.right b.ram r.sums.input (lane_at 8 b.old)
    → onward b (mixed b.parts.taps r e) ≡ bench_tick w b
unfolding bench_tick tick_of voices_tick
glued w b h c r e eh ec er ee = rw (ee, er, eh, ec) (unheard w.echo b w.voices (globals_tick b.parts.globals) (shared_of b.parts.globals b.parts.registers))

pub fit-kept-bench : (w : Work) (b : Bench) → BenchFit b → BenchFit (bench_tick w b)
unfolding bench_tick tick_of voices_tick
fit-kept-bench w b h =
    let p = b.parts in
    let c = shared_of p.globals p.registers in
    let t = turns (turn w.voices b.old c b.ram) 8 (start_of p) in
    let r = fit-kept-turns w.voices b.old c b.ram 8 (start_of p) (omega arith) h.round in
    let e = fit-kept-echo_lane w.echo (globals_tick p.globals) p.taps p.left p.right b.ram t.sums.input (lane_at 8 b.old) (globals-kept p.globals h.globals) in
    record {
      ram = e.ram ∙ h.ram;
      round = record { bytes = r.bytes; count = r.count; waits = r.waits; voices = r.voices; delays = r.delays };
      globals = e.globals;
    }

pub fit-kept-ticks : (w : Work) (n : ℕ) (b : Bench) → BenchFit b → BenchFit (ticks_of w n b)
unfolding ticks_of
fit-kept-ticks w zero b h = h
fit-kept-ticks w (suc n) b h = fit-kept-bench w (ticks_of w n b) (fit-kept-ticks w n b h)

-- the record of fit parts is fit
pub bench-fit : (b : Bench) → BenchFit b → Fit (together b.parts)
bench-fit b h = record { globals = h.globals; voices = h.round.voices; delays = h.round.delays }

-- and the other way: the arrays of a record of the language have these lengths
pub fit-bench : (d : Dsp) (ram pcm sheet old : List ℕ) → length ram ≡ 0x10000 → length d.registers ≡ 128 → length d.voices ≡ 8 → length d.kon_delay ≡ 8 → Fit d
    → BenchFit (record { parts = apart d; ram = ram; pcm = pcm; sheet = sheet; old = old })
fit-bench d ram pcm sheet old lr lb lv ld h =
    record { ram = lr; round = record { bytes = lb; count = lv; waits = ld; voices = h.voices; delays = h.delays }; globals = h.globals }

-- a tick of a fit record leaves a fit one
pub fit-kept_tick : (w : Work) (d : Dsp) (ram old : List ℕ) → length ram ≡ 0x10000 → length d.registers ≡ 128 → length d.voices ≡ 8 → length d.kon_delay ≡ 8 → Fit d
    → Fit (together (tick_of w old (apart d) ram).parts)
unfolding bench_tick
fit-kept_tick w d ram old lr lb lv ld h =
    let b : Bench = record { parts = apart d; ram = ram; pcm = []; sheet = []; old = old } in
    bench-fit (bench_tick w b) (fit-kept-bench w b (fit-bench d ram [] [] old lr lb lv ld h))

-- ---- a register write between ticks

pub fit-kept-bench-write : (i x : ℕ) (b : Bench) → i < 128 → x < 256 → BenchFit b → BenchFit (bench_write i x b)
unfolding write_parts write_at
fit-kept-bench-write i x b li lx h =
    let f = fit-kept-write i x (together b.parts) li lx (bench-fit b h) in
    let Eight : List Voice → Type 0 = λ (l : List Voice). length l ≡ 8 in
    record {
      ram = h.ram;
      round =
          record {
            bytes = chosen (λ (l : List ℕ). length l ≡ 128) (resets i x) (simp length-set h.round.bytes) (simp length-set h.round.bytes);
            count =
                chosen Eight (i % 16 <? 8) (simp length-set h.round.count)
                (chosen Eight (resets i x) (simp length-map h.round.count) h.round.count);
            waits = h.round.waits;
            voices = f.voices;
            delays = f.delays;
          };
      globals = f.globals;
    }
