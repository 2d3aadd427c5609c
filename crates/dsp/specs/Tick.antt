-- One tick of the machine: the noise, voices 0 to 7, each with its own poll, then echo and mix. That all voices polled before the noise make
-- the same tick, as document 01 has it, is `PollFirst` (rework, specs/Order).
use Rattle.std.specs.Prelude.{Bool, true, not, ◌&&◌, List, [], ◌++◌, ℕ, ℤ, get_or, set, if◌then◌else◌}
use Rattle.numbers.specs.Bits.{bit}
use Rattle.numbers.specs.Listed.{turns}
use Rattle.dsp.specs.Noise.{noise_tick, noise_sample}
use Rattle.dsp.specs.Machine.{Globals, Parts, no_voice}
use Rattle.dsp.specs.With.{with_poll}
use Rattle.dsp.specs.Mix.{Stereo, master_of}
use Rattle.dsp.specs.Sheet.{pair_bytes, lane_at}
use Rattle.dsp.specs.Echo.{Echo, EchoLane, echo_lane}
use Rattle.dsp.specs.Lane.{Shared, Sums, no_sums, Landed, turned}
use Rattle.dsp.specs.declared.voice.Voice.{Voice}
use Rattle.dsp.specs.declared.tick.Work.{Work}

-- ---- the voices

-- what moves from voice to voice, and the lanes of the sheet's row so far
pub record Round : Type 0 where
  pub voices : List Voice
  pub delays : List ℕ
  pub bytes : List ℕ
  pub sums : Sums
  pub row : List ℕ

abbrev pub landing : ℕ → Round → Landed → Round
landing j r x =
    record {
      voices = set r.voices j x.voice;
      delays = set r.delays j x.delay;
      bytes = x.bytes;
      sums = x.sums;
      row = r.row ++ x.slot;
    }

-- voice j, worked where the mask has it; old: the sheet from this tick's row on, as it was found
unfoldable pub turn : ℕ → List ℕ → Shared → List ℕ → ℕ → Round → Round
turn mask old c ram j r =
    landing j r (turned (bit mask j) c ram j (get_or r.voices j no_voice) (get_or r.delays j 0) r.sums r.bytes (lane_at j old))

unfoldable pub voices_tick : ℕ → List ℕ → Shared → List ℕ → Round → Round
voices_tick mask old c ram r = turns (turn mask old c ram) 8 r

-- ---- the numbers that belong to no voice

-- KON and KOFF are polled on ticks 1, 3, 5 .. from `new`
abbrev pub polls : Globals → Bool
polls g = not g.every_other_sample

-- each poll uses up the pending KON; the noise moves before the voices
unfoldable pub globals_tick : Globals → Globals
globals_tick g = with_poll g (if polls g then 0 else g.new_kon) (not g.every_other_sample) (noise_tick g.flg g.noise)

-- the KOFF byte, on a tick that polls
abbrev pub koff_now : Globals → List ℕ → ℕ
koff_now g bytes = if polls g then get_or bytes 0x5C 0 else 0

-- "then KON unless FLG bit 7": the poll uses up the pending KON all the same
abbrev pub kon_now : Globals → ℕ
kon_now g = if polls g && not (bit g.flg 7) then g.new_kon else 0

-- a poll's KOFF and a loop jump's DIR are the bytes
abbrev pub shared_of : Globals → List ℕ → Shared
shared_of g bytes =
    record {
      koff = koff_now g bytes;
      kon = kon_now g;
      dir_base = g.dir_base;
      dir = get_or bytes 0x5D 0;
      non = g.non;
      pmon = g.pmon;
      eon = g.eon;
      noise = noise_sample (noise_tick g.flg g.noise);
    }

-- ---- a tick

-- every voice and the echo: what `step` and a run work
abbrev pub everything : Work
everything = record { voices = 0xFF; echo = true }

abbrev pub start_of : Parts → Round
start_of p = record { voices = p.voices; delays = p.delays; bytes = p.registers; sums = no_sums; row = [] }

-- what a tick leaves: the parts, RAM, its sample and its row of the sheet
pub record Ticked : Type 0 where
  pub parts : Parts
  pub ram : List ℕ
  pub frame : List ℕ
  pub row : List ℕ

abbrev pub parts_after : List ℤ → Round → Echo → Parts
parts_after taps r e =
    record { registers = r.bytes; voices = r.voices; delays = r.delays; taps = taps; left = e.left; right = e.right; globals = e.globals }

abbrev pub frame_of : Stereo → List ℕ
frame_of s = pair_bytes s.l s.r

abbrev pub mixed : List ℤ → Round → EchoLane → Ticked
mixed taps r e =
    record {
      parts = parts_after taps r e.echo;
      ram = e.echo.ram;
      frame = frame_of (master_of e.echo.globals r.sums.dry);
      row = r.row ++ e.slot;
    }

-- the echo takes what the voices summed
abbrev pub mixed_from : Bool → List ℕ → Parts → List ℕ → Round → Ticked
mixed_from worked old p ram r =
    mixed p.taps r (echo_lane worked (globals_tick p.globals) p.taps p.left p.right ram r.sums.input (lane_at 8 old))

unfoldable pub tick_of : Work → List ℕ → Parts → List ℕ → Ticked
tick_of w old p ram = mixed_from w.echo old p ram (voices_tick w.voices old (shared_of p.globals p.registers) ram (start_of p))
