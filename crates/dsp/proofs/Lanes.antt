-- A lane keeps its voice fit.
use Rattle.std.proofs.Common.{if◌then◌else◌}
use mathlib.Core.Bool.{Bool, true}
use mathlib.Core.List.{List}
use mathlib.Core.Logic.{inl, inr}
use mathlib.Core.Path.{refl}
use Prim.Native.Nat.{ℕ, ◌≤◌}
use native.Mathlib.Omega.{arith}
use lib.IntN.{ℤ}
use Rattle.numbers.specs.Choice.{◌=?◌}
use Rattle.numbers.specs.Bits.{bit}
use Rattle.numbers.proofs.Choice.{chosen}
use Rattle.dsp.specs.With.{with_envelope, with_brr}
use Rattle.dsp.specs.Envelope.{envelope_tick}
use Rattle.dsp.specs.Brr.{decode_block}
use Rattle.dsp.specs.Fit.{FitVoice}
use Rattle.dsp.specs.Keys.{keyed_on, polled_delay}
use Rattle.dsp.specs.Voice.{block_of, pushed, interpolated}
use Rattle.dsp.specs.Lane.{Shared, Waiting, waited, waited_of, noised, Cell, cell_after, cell_of, own_cell, shown_cell}
use Rattle.dsp.specs.declared.voice.Voice.{Voice}
use Rattle.dsp.proofs.Fits.{most_of, voice-fit, adsr_fit, brr_fit, silenced-fit}
use Rattle.dsp.proofs.Envelopes.{fit-kept_envelope}
use Rattle.dsp.proofs.Moves.{KeptByTick, waited_keeps}
use Rattle.dsp.proofs.Plays.{next_fit}

pub fits : KeptByTick FitVoice
unfolding pushed interpolated keyed_on
fits =
    record {
      played =
          record {
            fill = λ v y r a p q h. voice-fit (with_brr v y (block_of a (decode_block r a p q))) h.0 h.1.0 (adsr_fit v h) (omega arith, (inr refl, tt));
            mute = silenced-fit;
            push = λ v e h. voice-fit (pushed v) h.0 h.1.0 (adsr_fit v h) (next_fit v.brr e (brr_fit v h));
            place = λ v p l h. (h.0, (l, h.1.1));
          };
      tick = λ v h. voice-fit (with_envelope v (envelope_tick v.adsr)) h.0 h.1.0 (fit-kept_envelope v.adsr (adsr_fit v h)) (brr_fit v h);
      interpolate = λ v h. h;
      off = λ v h. h;
      on = λ dir v h. voice-fit (keyed_on true dir v) h.0 (omega arith) (omega arith, (omega arith, (adsr_fit v h).1.1)) (omega arith, (inl refl, tt));
    }

pub record FitCell (x : Cell) : Type 0 where
  pub voice : FitVoice x.voice
  pub delay : x.delay ≤ 5

-- worked, or shown from the sheet
pub fit-kept_either : (worked : Bool) (c : Shared) (ram : List ℕ) (j : ℕ) (prev : ℤ) (v : Voice) (delay : ℕ) (bytes slot : List ℕ) → FitVoice v → delay ≤ 5
    → FitCell (if worked then own_cell c ram j prev v delay bytes else shown_cell slot v delay)
unfolding own_cell cell_of cell_after noised waited_of waited shown_cell
fit-kept_either worked c ram j prev v delay bytes slot h d =
    let n : polled_delay (bit c.kon j) delay ≤ 5 = most_of 5 (bit c.kon j) (omega arith) d in
    chosen FitCell worked
    (record {
      voice = waited_keeps fits c j ram prev v delay _ _ _ h;
      delay = chosen (λ (w : Waiting). w.delay ≤ 5) (polled_delay (bit c.kon j) delay =? 0) (omega arith) (omega arith);
    })
    (record { voice = h; delay = d })
