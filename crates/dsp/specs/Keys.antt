-- Key off, key on, and silence: what a poll, RESET and an end block without loop make of a voice.
use Rattle.std.specs.Prelude.{Bool, true, false, not, ◌&&◌, ℕ, pos, replicate, if◌then◌else◌}
use Rattle.numbers.specs.Unsigned.{wrapped}
use Rattle.dsp.specs.With.{with_state, moved, with_key}
use Rattle.dsp.specs.Envelope.{is_off}
use Rattle.dsp.specs.Ram.{entry_of}
use Rattle.dsp.specs.declared.adsr.EnvelopePhase.TheVariants.{Attack, Release, Off}
use Rattle.dsp.specs.declared.voice.Voice.{Voice}

-- level 0, Off, key_on clear
abbrev pub silenced : Voice → Voice
silenced v = with_key v false (with_state v.adsr 0 Off v.adsr.tick_counter)

-- KOFF: key_on clear, Release, only for a phase not Off
unfoldable pub keyed_off : Bool → Voice → Voice
keyed_off on v =
    if on && not (is_off v.adsr.envelope_phase) then with_key v false (with_state v.adsr v.adsr.envelope_level Release v.adsr.tick_counter) else
    v

-- KON: key_on, Attack, the directory address; zeros in level, counter, position, sample, history, and BRR state other than old samples
unfoldable pub keyed_on : Bool → ℕ → Voice → Voice
keyed_on on dir v =
    if on then
    moved v true 0 (pos 0) (replicate 4 (pos 0)) (with_state v.adsr 0 Attack 0)
    (record {
      addr = wrapped (entry_of dir v.srcn);
      nibble_idx = 0;
      prev1 = pos 0;
      prev2 = pos 0;
      block_end = false;
      sample_buffer = v.brr.sample_buffer;
      buffer_fill = 0;
    })
    else v

-- KOFF first, then KON
abbrev pub polled_voice : Bool → Bool → ℕ → Voice → Voice
polled_voice off on dir v = keyed_on on dir (keyed_off off v)

-- a key-on zeroes the ENDX bit
abbrev pub polled_endx : Bool → Bool → Bool
polled_endx on endx = if on then false else endx

-- and sets delay 5: the poll tick is the first of five skipped ones
abbrev pub polled_delay : Bool → ℕ → ℕ
polled_delay on delay = if on then 5 else delay
