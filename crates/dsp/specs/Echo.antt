-- The echo: the pair at its pointer goes through the filter, and back into RAM with feedback.
use Rattle.std.specs.Prelude.{Bool, List, ℕ, ◌+◌, ◌*◌, ℤ, get_or, if◌then◌else◌}
use Rattle.numbers.specs.Choice.{◌≤?◌, ◌=?◌}
use Rattle.numbers.specs.Signed.{◌>>◌}
use Rattle.numbers.specs.Bits.{bit}
use Rattle.numbers.specs.Listed.{moved_on}
use Rattle.sound.specs.Sound.{joined, fed_back, fir_of}
use Rattle.dsp.specs.Ram.{byte_at, stored_from}
use Rattle.dsp.specs.Machine.{Globals}
use Rattle.dsp.specs.With.{with_echo}
use Rattle.dsp.specs.Mix.{Stereo}
use Rattle.dsp.specs.Sheet.{pair_bytes}

-- the pair at the pointer: ESA · 256 + pointer, every byte address modulo 65,536
abbrev pub echo_base : Globals → ℕ
echo_base g = g.esa * 0x100 + g.echo_ptr

unfoldable pub echo_read : Globals → List ℕ → ℕ → ℤ
echo_read g ram k = joined (byte_at ram (echo_base g + k)) (byte_at ram (echo_base g + (k + 1)))

-- with FLG bit 5 clear four bytes are written; else none
unfoldable pub echo_written : Globals → List ℕ → ℤ → ℤ → List ℕ
echo_written g ram l r =
    if bit g.flg 5 then ram else
    stored_from (echo_base g) (pair_bytes l r) ram

-- the length is taken from EDL · 2048 only at pointer 0
unfoldable pub length_now : Globals → ℕ
length_now g =
    if g.echo_ptr =? 0 then g.edl * 2048 else
    g.echo_len

-- a pair on; at the length it is 0 again
unfoldable pub pointer_next : Globals → ℕ
pointer_next g =
    if length_now g ≤? g.echo_ptr + 4 then 0 else
    g.echo_ptr + 4

-- after a tick that put out l and r
unfoldable pub echo_moved : Globals → ℤ → ℤ → Globals
echo_moved g l r = with_echo g (pointer_next g) (length_now g) l r

-- one side: its history moved on by what is read at byte k, and what the filter makes of it
unfoldable pub history_now : Globals → List ℕ → ℕ → List ℤ → List ℤ
history_now g ram k history = moved_on history (echo_read g ram k >> 1)

unfoldable pub echo_now : Globals → List ℕ → ℕ → List ℤ → List ℤ → ℤ
echo_now g ram k taps history = fir_of (history_now g ram k history) taps

pub record Echo : Type 0 where
  pub globals : Globals
  pub left : List ℤ
  pub right : List ℤ
  pub ram : List ℕ

-- one tick. What moves in the record depends on no voice; only RAM takes the echo input
unfoldable pub echo_tick : Globals → List ℤ → List ℤ → List ℤ → List ℕ → Stereo → Echo
echo_tick g taps left right ram input =
    record {
      globals = echo_moved g (echo_now g ram 0 taps left) (echo_now g ram 2 taps right);
      left = history_now g ram 0 left;
      right = history_now g ram 2 right;
      ram = echo_written g ram (fed_back input.l (echo_now g ram 0 taps left) g.efb) (fed_back input.r (echo_now g ram 2 taps right) g.efb);
    }

-- ---- the echo's lane of the sheet

-- the output as the sheet shows it, with pointer and length as they stand
unfoldable pub echo_from : List ℕ → Globals → Globals
echo_from slot g = with_echo g g.echo_ptr g.echo_len (joined (get_or slot 0 0) (get_or slot 1 0)) (joined (get_or slot 2 0) (get_or slot 3 0))

pub record EchoLane : Type 0 where
  pub echo : Echo
  pub slot : List ℕ

abbrev pub echo_worked : Echo → EchoLane
echo_worked e = record { echo = e; slot = pair_bytes e.globals.echo_out_l e.globals.echo_out_r }

abbrev pub echo_shown : Globals → List ℤ → List ℤ → List ℕ → List ℕ → EchoLane
echo_shown g left right ram slot =
    record { echo = record { globals = echo_from slot g; left = left; right = right; ram = ram }; slot = slot }

-- the echo is worked, or its output is the sheet's
unfoldable pub echo_lane : Bool → Globals → List ℤ → List ℤ → List ℤ → List ℕ → Stereo → List ℕ → EchoLane
echo_lane worked g taps left right ram input slot =
    if worked then echo_worked (echo_tick g taps left right ram input) else
    echo_shown g left right ram slot
