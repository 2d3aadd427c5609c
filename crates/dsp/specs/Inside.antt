-- How the contracts of inner functions read the code's structs, into the records of the definitions, and what the code does at once that
-- the definitions do one by one. Contracts and proofs alone cite this file; no definition does, so that none moves when the inside does.
use Rattle.std.specs.Prelude.{Bool, false, Option, None, Some, ◌||◌, List, [], ◌∷◌, ◌≡◌, ℕ, zero, suc, ◌+◌, ◌-◌, ◌*◌, ◌%◌, ℤ, pos, length, get_or, if◌then◌else◌}
use Rattle.numbers.specs.Choice.{◌≤?◌, ◌=?◌}
use Rattle.numbers.specs.Listed.{listed}
use Rattle.numbers.specs.Unsigned.{least}
use Rattle.sound.specs.Clock.{period_of}
use Rattle.chip_log.specs.Log.{decode}
use Rattle.chip_log.specs.Measure.{total_of}
use Rattle.chip_log.specs.Measure.{Measured}
use Rattle.dsp.specs.Noise.{Noise}
use Rattle.dsp.specs.Machine.{Globals, Parts, together}
use Rattle.dsp.specs.With.{with_state, moved, with_position}
use Rattle.dsp.specs.Ram.{word_at}
use Rattle.dsp.specs.Brr.{DecodedBlock}
use Rattle.dsp.specs.Voice.{Sounding, PitchSource, plain, modulated_by, position_of, samples_taken, next_address, pushed_next}
use Rattle.dsp.specs.Mix.{Stereo}
use Rattle.dsp.specs.Lane.{Shared, Sums}
use Rattle.dsp.specs.declared.adsr.Adsr.{Adsr}
use Rattle.dsp.specs.declared.adsr.Envelope.{Envelope}
use Rattle.dsp.specs.declared.adsr.EnvelopePhase.TheVariants.{Attack, Off}
use Rattle.dsp.specs.declared.adsr.Settings.{Settings}
use Rattle.dsp.specs.declared.brr.Block.{Block}
use Rattle.dsp.specs.declared.brr.Brr.{Brr}
use Rattle.dsp.specs.declared.lane.Acc.{Acc}
use Rattle.dsp.specs.declared.lane.Dial.{Dial}
use Rattle.dsp.specs.declared.lane.Shared.{Shared as Seen}
use Rattle.dsp.specs.declared.mix.Stereo.{Stereo as Sides}
use Rattle.dsp.specs.declared.noise.Noise.{Noise as Register}
use Rattle.dsp.specs.declared.play.Play.{Play}
use Rattle.dsp.specs.declared.play.Feed.{Feed}
use Rattle.dsp.specs.declared.registers.Dsp.{Dsp}
use Rattle.dsp.specs.declared.registers.Glob.{Glob}
use Rattle.dsp.specs.declared.tick.Moving.{Moving}
use Rattle.dsp.specs.declared.voice.Voice.{Voice}

-- ---- an envelope

-- the periods beside the settings are those of their entries
pub record Wound (s : Settings) : Type 0 where
  pub attack : s.attack_period ≡ period_of (2 * s.attack_rate + 1)
  pub decay : s.decay_period ≡ period_of (2 * s.decay_rate + 16)
  pub sustain : s.sustain_period ≡ period_of s.sustain_rate
  pub gain : s.gain_period ≡ period_of (s.gain_param % 32)

abbrev pub as_adsr : Settings → Envelope → Adsr
as_adsr s e =
    record {
      adsr_mode = s.adsr_mode;
      gain_param = s.gain_param;
      attack_rate = s.attack_rate;
      decay_rate = s.decay_rate;
      sustain_level = s.sustain_level;
      sustain_rate = s.sustain_rate;
      envelope_level = e.level;
      envelope_phase = e.phase;
      tick_counter = e.counter;
    }

abbrev pub settings_of : Adsr → Settings
settings_of a =
    record {
      adsr_mode = a.adsr_mode;
      gain_param = a.gain_param;
      attack_rate = a.attack_rate;
      decay_rate = a.decay_rate;
      sustain_level = a.sustain_level;
      sustain_rate = a.sustain_rate;
      attack_period = period_of (2 * a.attack_rate + 1);
      decay_period = period_of (2 * a.decay_rate + 16);
      sustain_period = period_of a.sustain_rate;
      gain_period = period_of (a.gain_param % 32);
    }

abbrev pub envelope_of : Adsr → Envelope
envelope_of a = record { level = a.envelope_level; phase = a.envelope_phase; counter = a.tick_counter }

-- a: the envelope whose settings stay
abbrev pub as_envelope : Adsr → Envelope → Adsr
as_envelope a e = with_state a e.level e.phase e.counter

-- a hard cut
abbrev pub cut_envelope : Envelope → Envelope
cut_envelope e = record { level = 0; phase = Off; counter = e.counter }

-- ---- a voice: its dial, which only register writes change, its envelope, what moves at each sample and what at each block, its sample, and
-- the 16 samples of its block

abbrev pub history_of : Play → List ℤ
history_of p = p.oldest ∷ p.older ∷ p.newer ∷ p.newest ∷ []

abbrev pub as_brr : Play → Feed → List ℤ → Brr
as_brr p f samples =
    record {
      addr = f.addr;
      nibble_idx = p.nibble_idx;
      prev1 = f.prev1;
      prev2 = f.prev2;
      block_end = f.block_end;
      sample_buffer = samples;
      buffer_fill = f.buffer_fill;
    }

abbrev pub as_voice : Dial → Envelope → Play → Feed → ℤ → List ℤ → Voice
as_voice d e p f x samples =
    record {
      left_vol = d.left_vol;
      right_vol = d.right_vol;
      pitch = d.pitch;
      srcn = d.srcn;
      key_on = p.key_on;
      pitch_counter = p.pitch_counter;
      current_sample = x;
      history = history_of p;
      adsr = as_adsr d.settings e;
      brr = as_brr p f samples;
    }

-- v: the voice whose volumes, pitch, SRCN and settings stay
abbrev pub restored : Voice → Envelope → Play → Feed → ℤ → List ℤ → Voice
restored v e p f x samples = moved v p.key_on p.pitch_counter x (history_of p) (as_envelope v.adsr e) (as_brr p f samples)

-- the parts of a voice
abbrev pub dial_of : Voice → Dial
dial_of v = record { left_vol = v.left_vol; right_vol = v.right_vol; pitch = v.pitch; srcn = v.srcn; settings = settings_of v.adsr }

abbrev pub play_of : Voice → Play
play_of v =
    record {
      key_on = v.key_on;
      nibble_idx = v.brr.nibble_idx;
      pitch_counter = v.pitch_counter;
      oldest = get_or v.history 0 (pos 0);
      older = get_or v.history 1 (pos 0);
      newer = get_or v.history 2 (pos 0);
      newest = get_or v.history 3 (pos 0);
    }

abbrev pub feed_of : Brr → Feed
feed_of b = record { addr = b.addr; buffer_fill = b.buffer_fill; prev1 = b.prev1; prev2 = b.prev2; block_end = b.block_end }

-- key_on clear
abbrev pub hushed_play : Play → Play
hushed_play p =
    record {
      key_on = false;
      nibble_idx = p.nibble_idx;
      pitch_counter = p.pitch_counter;
      oldest = p.oldest;
      older = p.older;
      newer = p.newer;
      newest = p.newest;
    }

-- in its tick, with its sample
abbrev pub as_sounding : Voice → Envelope → Play → Feed → List ℤ → Bool → Sounding
as_sounding v e p f samples endx =
    record {
      voice = restored v e p f v.current_sample samples;
      endx = endx;
    }

abbrev pub as_decoded : Block → List ℤ → DecodedBlock
as_decoded b samples = record { samples = samples; prev1 = b.prev1; prev2 = b.prev2; end = b.end; loops = b.loops }

abbrev pub as_source : Option ℤ → PitchSource
as_source None = plain
as_source (Some x) = modulated_by x

-- ---- the samples of a tick at once: at most seven are taken, so that the block changes once at most

-- n samples of the block that is played
unfoldable pub pushed_on : ℕ → Sounding → Sounding
pushed_on zero s = s
pushed_on (suc n) s = pushed_on n (pushed_next s)

-- the samples that its block still has; none before the first is decoded
abbrev pub room_of : Sounding → ℕ
room_of s = if s.voice.brr.buffer_fill =? 0 then 0 else 16 - s.voice.brr.nibble_idx

-- up to a block change that is due
abbrev pub begun_of : PitchSource → Sounding → Sounding
begun_of x s = pushed_on (least (samples_taken x s.voice) (room_of s)) (record { voice = with_position s.voice (position_of x s.voice); endx = s.endx })

abbrev pub due_of : PitchSource → Sounding → Bool
due_of x s = room_of s ≤? samples_taken x s.voice

abbrev pub rest_left : PitchSource → Sounding → ℕ
rest_left x s = samples_taken x s.voice - room_of s

abbrev pub block_address : List ℕ → ℕ → ℕ → Brr → ℕ
block_address ram dir srcn b = if b.buffer_fill =? 0 then word_at ram b.addr else next_address ram dir srcn b

-- behind a block change: the tick's further samples are dropped where key_on is clear, but not at the first block
abbrev pub gone_on : Bool → ℕ → Sounding → Sounding
gone_on first n s = if first || s.voice.key_on then pushed_on n s else s

-- ---- a lane

abbrev pub as_shared : Seen → Shared
as_shared c =
    record {
      koff = c.koff;
      kon = c.kon;
      dir_base = c.dir_base;
      dir = c.dir;
      non = c.non;
      pmon = c.pmon;
      eon = if c.echo then c.eon else 0;
      noise = c.noise;
    }

-- where the echo is not worked, no input is summed for it
abbrev pub heard : Bool → Shared → Shared
heard echo c =
    record {
      koff = c.koff;
      kon = c.kon;
      dir_base = c.dir_base;
      dir = c.dir;
      non = c.non;
      pmon = c.pmon;
      eon = if echo then c.eon else 0;
      noise = c.noise;
    }

abbrev pub as_stereo : Sides → Stereo
as_stereo s = record { l = s.l; r = s.r }

abbrev pub as_sums : Acc → Sums
as_sums a = record { prev = a.prev; dry = record { l = a.dry_l; r = a.dry_r }; input = record { l = a.echo_l; r = a.echo_r } }

-- ---- the numbers that belong to no voice

abbrev pub as_noise : Register → Noise
as_noise n = record { lfsr = n.lfsr; counter = n.counter }

abbrev pub as_globals : Glob → Globals
as_globals g =
    record {
      dir_base = g.dir_base;
      master_vol_left = g.master_vol_left;
      master_vol_right = g.master_vol_right;
      flg = g.flg;
      new_kon = g.new_kon;
      every_other_sample = g.every_other_sample;
      non = g.non;
      pmon = g.pmon;
      noise = as_noise g.noise;
      echo_vol_left = g.echo_vol_left;
      echo_vol_right = g.echo_vol_right;
      efb = g.efb;
      eon = g.eon;
      esa = g.esa;
      edl = g.edl;
      echo_ptr = g.echo_ptr;
      echo_len = g.echo_len;
      echo_out_l = g.echo_out_l;
      echo_out_r = g.echo_out_r;
    }

-- d with other numbers in the place of its own
abbrev pub with_globals : Dsp → Globals → Dsp
with_globals d g =
    together
    (record {
      registers = d.registers;
      voices = d.voices;
      delays = d.kon_delay;
      taps = d.fir_coeff;
      left = d.fir_history_l;
      right = d.fir_history_r;
      globals = g;
    })

-- ---- all voices, apart

-- what stands past the end of each array: the language's own default
abbrev pub no_envelope : Envelope
no_envelope = record { level = 0; phase = Attack; counter = 0 }

abbrev pub no_play : Play
no_play = record { key_on = false; nibble_idx = 0; pitch_counter = 0; oldest = pos 0; older = pos 0; newer = pos 0; newest = pos 0 }

abbrev pub no_feed : Feed
no_feed = record { addr = 0; buffer_fill = 0; prev1 = pos 0; prev2 = pos 0; block_end = false }

abbrev pub no_settings : Settings
no_settings =
    record {
      adsr_mode = false;
      gain_param = 0;
      attack_rate = 0;
      decay_rate = 0;
      sustain_level = 0;
      sustain_rate = 0;
      attack_period = 0;
      decay_period = 0;
      sustain_period = 0;
      gain_period = 0;
    }

abbrev pub no_dial : Dial
no_dial = record { left_vol = pos 0; right_vol = pos 0; pitch = 0; srcn = 0; settings = no_settings }

-- voice j's samples in the store
abbrev pub samples_at : ℕ → List (List ℤ) → List ℤ
samples_at j store = get_or store j []

-- the voices that the arrays stand for
unfoldable pub voices_in : List Dial → List Envelope → List Play → List Feed → List ℤ → List (List ℤ) → List Voice
voices_in dials envelopes plays feeds currents store =
    listed
    (λ j.
    as_voice (get_or dials j no_dial) (get_or envelopes j no_envelope) (get_or plays j no_play) (get_or feeds j no_feed) (get_or currents j (pos 0)) (samples_at j store)) 8

abbrev pub parts_in : Moving → List Dial → List ℤ → List ℤ → List ℕ → List (List ℤ) → List ℕ → Parts
parts_in m dials taps currents delays store bytes =
    record {
      registers = bytes;
      voices = voices_in dials m.envelopes m.plays m.feeds currents store;
      delays = delays;
      taps = taps;
      left = m.far.left;
      right = m.far.right;
      globals = as_globals m.far.glob;
    }

-- ---- a log that is refused by nothing, and slices that are as long as it needs

pub record Ready (log pcm sheet readings : List ℕ) : Type 0 where
  pub ticks : ℕ
  pub count : ℕ
  pub all : ◌≡◌ {A = Measured} (total_of (decode log) 0 0) (record { refusal = 0; ticks = ticks; readings = count })
  pub pcm_is : length pcm ≡ ticks * 4
  pub sheet_is : length sheet ≡ ticks * 36
  pub readings_is : length readings ≡ count
