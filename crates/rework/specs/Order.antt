-- The tick in document 01's order: every voice is polled, then the noise moves, then the voices step one after another, then the echo.
-- `tick_of` polls each voice in its own lane, behind the noise; that this is the same tick is `PollFirst`.
use Rattle.std.specs.Prelude.{true, false, not, List, [], ◌≡◌, ℕ, get_or, set, if◌then◌else◌}
use Rattle.numbers.specs.Bits.{bit}
use Rattle.numbers.specs.Listed.{turns}
use Rattle.dsp.specs.Noise.{noise_tick, noise_sample}
use Rattle.dsp.specs.Machine.{Globals, Parts, apart, no_voice}
use Rattle.dsp.specs.With.{with_poll}
use Rattle.dsp.specs.Keys.{polled_voice, polled_delay}
use Rattle.dsp.specs.Echo.{echo_lane}
use Rattle.dsp.specs.Lane.{Shared, put_endx}
use Rattle.dsp.specs.Tick.{Round, polls, koff_now, kon_now, voices_tick, everything, start_of, Ticked, mixed, tick_of}
use Rattle.dsp.specs.declared.registers.Dsp.{Dsp}
use Rattle.dsp.specs.declared.voice.Voice.{Voice}
use Rattle.rework.specs.Demands.{IsRecord}

-- ---- the poll: "KOFF first, only for a phase not Off; then KON"

-- voices, delays and registers after the poll of voice j
pub record Polled : Type 0 where
  pub voices : List Voice
  pub delays : List ℕ
  pub registers : List ℕ

abbrev pub poll_one : ℕ → ℕ → ℕ → ℕ → Polled → Polled
poll_one koff kon dir j p =
    record {
      voices = set p.voices j (polled_voice (bit koff j) (bit kon j) dir (get_or p.voices j no_voice));
      delays = set p.delays j (polled_delay (bit kon j) (get_or p.delays j 0));
      registers = if bit kon j then put_endx j false p.registers else p.registers;
    }

abbrev pub polled_all : Globals → Polled → Polled
polled_all g p = turns (poll_one (koff_now g p.registers) (kon_now g) g.dir_base) 8 p

-- "each poll uses up the pending KON"; every second tick polls
abbrev pub polled_globals : Globals → Globals
polled_globals g = with_poll g (if polls g then 0 else g.new_kon) (not g.every_other_sample) g.noise

abbrev pub with_polled : Parts → Polled → Parts
with_polled p q =
    record {
      registers = q.registers;
      voices = q.voices;
      delays = q.delays;
      taps = p.taps;
      left = p.left;
      right = p.right;
      globals = polled_globals p.globals;
    }

abbrev pub polled_parts : Parts → Parts
polled_parts p = with_polled p (polled_all p.globals (record { voices = p.voices; delays = p.delays; registers = p.registers }))

-- ---- the noise

abbrev pub noised_globals : Globals → Globals
noised_globals g = with_poll g g.new_kon g.every_other_sample (noise_tick g.flg g.noise)

-- ---- the voices, which poll nothing any more, and the echo

abbrev pub unpolled : Globals → List ℕ → Shared
unpolled g registers =
    record { koff = 0; kon = 0; dir_base = g.dir_base; dir = get_or registers 0x5D 0; non = g.non; pmon = g.pmon; eon = g.eon; noise = noise_sample g.noise }

abbrev pub echo_behind : Parts → List ℕ → Globals → Round → Ticked
echo_behind p ram g r = mixed p.taps r (echo_lane true g p.taps p.left p.right ram r.sums.input [])

-- p: after the poll
abbrev pub noise_then_voices : Parts → List ℕ → Ticked
noise_then_voices p ram = echo_behind p ram (noised_globals p.globals) (voices_tick 0xFF [] (unpolled (noised_globals p.globals) p.registers) ram (start_of p))

abbrev pub tick_in_order : Parts → List ℕ → Ticked
tick_in_order p ram = noise_then_voices (polled_parts p) ram

abbrev pub PollFirst : Type 0
PollFirst = (d : Dsp) (ram old : List ℕ) → IsRecord d → tick_of everything old (apart d) ram ≡ tick_in_order (apart d) ram
