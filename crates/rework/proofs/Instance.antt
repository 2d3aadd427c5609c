-- What is computed once: the programs that must not get through, each at an input of its own; and an instance of demand 3, two lessons
-- that differ in the GAIN of voice 3, in which voice 4 joins late. While voice 3 is in the set and PMON selects voice 5, nothing joins;
-- once PMON selects voice 4, that does, and voice 5 stays out.
use mathlib.Core.Bool.{true, false, true≢false}
use mathlib.Core.List.{List, [], ◌∷◌}
use mathlib.Core.Logic.{◌≢◌}
use mathlib.Core.Path.{◌≡◌, refl, sym, ap, ◌∙◌}
use Prim.Native.Nat.{ℕ, ◌*◌}
use native.Mathlib.Omega.{arith}
use lib.ListN.{get_or, drop, replicate}
use lib.Signed.{mag}
use borrow.Author.Tests.{eqb-false, ltb-true}
use Rattle.numbers.specs.Choice.{◌<?◌, ◌=?◌}
use Rattle.numbers.proofs.Lists.{all-at}
use Rattle.numbers.specs.Bits.{with_bit}
use Rattle.numbers.specs.Listed.{listed, turns, folded, all}
use Rattle.sound.specs.Clock.{periods, period_of}
use Rattle.sound.specs.Noise.{shifted}
use Rattle.dsp.specs.Clock.{fires, counted_on}
use Rattle.dsp.specs.Noise.{noise_tick}
use Rattle.dsp.specs.Machine.{no_voice, apart}
use Rattle.dsp.specs.PowerOn.{new_dsp}
use Rattle.dsp.specs.Fit.{fit}
use Rattle.dsp.specs.Envelope.{attack_tick, gain_tick, phase_tick, envelope_tick}
use Rattle.dsp.specs.Keys.{keyed_off, keyed_on}
use Rattle.dsp.specs.Ram.{byte_at, word_at, stored_from}
use Rattle.dsp.specs.Brr.{decode_block}
use Rattle.dsp.specs.Registers.{write_parts, write_at, write_of}
use Rattle.dsp.specs.Voice.{pitch_of, position_of, samples_taken, placed, decoded_at, next_address, next_block, resolved, pushed, take_one, consume, advanced, interpolated, sounded, voice_step}
use Rattle.dsp.specs.Mix.{scaled_output, with_voice, dry_of, master_of, render_of}
use Rattle.dsp.specs.Sheet.{lane_at, pair_bytes, lane_bytes}
use Rattle.dsp.specs.Echo.{echo_read, history_now, echo_now, echo_written, length_now, pointer_next, echo_moved, echo_tick, echo_from, echo_lane}
use Rattle.dsp.specs.Lane.{waited, noised, source_of, polled_of, waited_of, cell_after, cell_of, shown_cell, put_bytes, added, own_cell, turned}
use Rattle.dsp.specs.Tick.{turn, voices_tick, globals_tick, tick_of}
use Rattle.dsp.specs.Ticks.{bench_tick, ticks_of, step_of}
use Rattle.sound.specs.Sound.{fir_sum, fir_of}
use Rattle.dsp.specs.declared.voice.Voice.{Voice}
use Rattle.dsp.specs.declared.registers.Dsp.{Dsp}
use Rattle.chip_log.specs.Log.{write_record, ticks_record, reading_record, by_mark, read_at, decode_from, decode}
use Rattle.chip_log.specs.Measure.{measure_of}
use Rattle.dsp.specs.Run.{Outcome, run_of, run_measured, run_with}
use Rattle.dsp.specs.Play.{play, play_all}
use Rattle.rework.specs.Members.{modes_of, quiet, joined_by, joined_over, members, voices_in}
use Rattle.rework.specs.Rework.{Left, picked, refusal_of, rework_of}
use Rattle.rework.specs.Refusals.{first_of}
use Rattle.rework.specs.Demands.{Bytes, Reworks}
use Rattle.rework.specs.NotThrough.{ram, put, ticks, ask, end, unclamped, NotThrough}
use Rattle.rework.specs.Alike.{without, same_record, same_records, alike}
use Rattle.rework.proofs.Keeps.{new_value}
use Rattle.rework.proofs.Demand3.{same_self, demand3}

-- ---- the lessons

-- voice 3 plays noise, voice 4 is keyed on with it; PMON selects voice 5, then voice 4; OUTX of voices 3 and 5 is read
abbrev lesson : ℕ → List ℕ
lesson gain =
    put 0x6C 0x20 (put 0x3D 0x08 (put 0x37 gain (put 0x43 0x10 (put 0x4C 0x18 (put 0x2D 0x20 (ticks 6
    (put 0x2D 0x10 (ticks 1 (ask 0x39 (ask 0x59 end))))))))))

abbrev pcm : List ℕ
pcm = replicate 28 0

abbrev sheet : List ℕ
sheet = replicate 252 0

abbrev told : List ℕ
told = replicate 2 0

abbrev run : ℕ → Outcome
run gain = run_of new_dsp ram (lesson gain) pcm sheet told

abbrev again : Left
again = rework_of 0x08 new_dsp (run 0x7F).dsp ram (lesson 0x7F) (lesson 0x40) pcm (run 0x7F).sheet told

-- ---- what comes of it

-- the lane of voice 3 at the last tick, and how far voice 4 has come in its samples
abbrev lane : List ℕ → List ℕ
lane rows = lane_at 3 (drop (6 * 36) rows)

abbrev position : List Voice → ℕ
position vs = (get_or vs 4 no_voice).pitch_counter

pub record Seen : Type 0 where
  pub members : again.members ≡ 0x18
  pub count : again.count ≡ 2
  pub lane_before : lane (run 0x7F).sheet ≡ 0x00 ∷ 0x81 ∷ 0x7F ∷ 0 ∷ []
  pub lane_after : lane again.sheet ≡ 0x00 ∷ 0xC0 ∷ 0x40 ∷ 0 ∷ []
  pub position_before : position (run 0x7F).dsp.voices ≡ 4128
  pub position_after : position again.dsp.voices ≡ 6144
  pub readings-before : (run 0x7F).readings ≡ 0x81 ∷ 0 ∷ []
  pub readings-after : again.readings ≡ 0xC0 ∷ 0 ∷ []
  pub lane_second : lane (run 0x40).sheet ≡ 0x00 ∷ 0xC0 ∷ 0x40 ∷ 0 ∷ []
  pub position_second : position (run 0x40).dsp.voices ≡ 6144
  pub readings_second : (run 0x40).readings ≡ 0xC0 ∷ 0 ∷ []
  -- the premises
  pub logs : without 0x08 (decode (lesson 0x7F)).records ≡ without 0x08 (decode (lesson 0x40)).records
  pub quiet_is : quiet (decode (lesson 0x7F)).records (modes_of new_dsp) ≡ true
  pub first_runs : (run 0x7F).refusal ≡ 0
  pub second_runs : (run 0x40).refusal ≡ 0

-- two things that have different numbers
differ_by : {A : Type 0} (f : A → ℕ) {x y : A} (m n : ℕ) → f x ≡ m → f y ≡ n → (m =? n) ≡ false → x ≢ y
differ_by f m n p q d = λ e. eqb-false m n d (sym p ∙ ap f e ∙ q)

abbrev byte : ℕ → List ℕ → ℕ
byte n xs = get_or xs n 0

computed : Seen × NotThrough
unfolding first_of fir_sum fir_of echo_read history_now echo_now with_voice folded dry_of master_of render_of step_of unclamped periods period_of shifted byte_at word_at decode_block fires counted_on stored_from echo_written length_now pointer_next echo_moved echo_tick echo_from echo_lane attack_tick gain_tick phase_tick envelope_tick all fit keyed_off keyed_on waited noised source_of polled_of waited_of cell_after cell_of shown_cell with_bit put_bytes added own_cell turned scaled_output noise_tick turns write_parts write_at write_of pair_bytes lane_bytes turn voices_tick globals_tick tick_of bench_tick ticks_of pitch_of position_of samples_taken placed decoded_at next_address next_block resolved pushed take_one consume advanced interpolated sounded voice_step write_record ticks_record reading_record by_mark read_at decode_from decode measure_of play play_all run_measured run_with without same_record same_records alike quiet joined_by joined_over members voices_in listed picked refusal_of rework_of
computed = (
  record {
    members = refl;
    count = refl;
    lane_before = refl;
    lane_after = refl;
    position_before = refl;
    position_after = refl;
    readings-before = refl;
    readings-after = refl;
    lane_second = refl;
    position_second = refl;
    readings_second = refl;
    logs = refl;
    quiet_is = refl;
    first_runs = refl;
    second_runs = refl;
  },
  record {
    refuses_all = λ h. let e : ◌≡◌ {A = ℕ} 2 0 = (h.render new_dsp).0 in absurd (omega arith);
    taken = (refl, refl, refl, refl);
    sounds = differ_by (byte 0) 0xF4 0 refl refl refl;
    moves = differ_by (byte 0) 0xF4 0xFA refl refl refl;
    steps = λ e. true≢false (ap (λ (d : Dsp). d.every_other_sample) e);
    goes_on = differ_by (byte 0) 0xFC 0 refl refl refl;
    rewrites = differ_by (byte 182) 0x40 0x7F refl refl refl;
    counts = (refl, refl);
    only_named = differ_by (byte 4) 0x55 0 refl refl refl;
    clamps_each = differ_by mag 253 31753 refl refl refl;
    keeps_on = differ_by (λ (v : Voice). v.pitch_counter) 0x1000 0 refl refl refl;
    untouched = differ_by (byte 0) 0x7F 0 refl refl refl;
  },
)

pub seen : Seen
seen = computed.0

pub not_through : NotThrough
not_through = computed.1

-- ---- so demand 3 speaks of it

are_bytes : (xs : List ℕ) → all (λ x. x <? 256) xs ≡ true → Bytes xs
are_bytes xs e i = ltb-true _ _ (all-at (λ (x : ℕ). x <? 256) 0 xs e refl i)

pub met : Reworks 0x08 new_dsp (lesson 0x40) (run 0x7F) (run 0x40) again
unfolding all
met =
    demand3 0x08 new_dsp new_dsp ram (lesson 0x7F) (lesson 0x40) pcm sheet told pcm sheet told pcm told new_value new_value (are_bytes (lesson 0x7F) refl) (are_bytes (lesson 0x40) refl)
    (same_self 0x08 (apart new_dsp)) seen.logs seen.quiet_is seen.first_runs seen.second_runs refl refl
