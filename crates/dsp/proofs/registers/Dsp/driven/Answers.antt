-- What the record was taken apart into stands for its parts (Made); drive moves these on; what it leaves is the record that is made again.
use mathlib.Core.List.{[]}
use mathlib.Core.Path.{◌≡◌, sym, subst, ◌∙◌}
use Rattle.dsp.specs.Fit.{Fit}
use Rattle.dsp.specs.Machine.{Parts, apart, together}
use Rattle.dsp.specs.Inside.{as_globals, voices_in, parts_in}
use Rattle.dsp.specs.Ticks.{ticks_of}
use Rattle.dsp.specs.declared.registers.Dsp.{Dsp}
use Rattle.dsp.proofs.Made.{histories, dials_wound, voices-again, stored-samples}
use Rattle.dsp.proofs.registers.Dsp.driven.Goals.{After-feeds_of-feeds}
use Rattle.dsp.proofs.registers.Dsp.driven.Goals as goal

-- what the record was taken apart into
abbrev in_arrays : After-feeds_of-feeds → Parts
in_arrays c =
    parts_in (record { far = c.far-far.result; envelopes = c.envelopes_of-envelopes.result; plays = c.plays_of-plays.result; feeds = c.feeds_of-feeds.result })
    c.dials_of-dials.result c.taps-taps.result c.currents_of-currents.result c.delays-delays.result c.store_of-store.result c.bytes-bytes.result

taken : (c : After-feeds_of-feeds) → in_arrays c ≡ apart c.args.self
taken c =
    let lanes = c.lanes-voices in
    let voices =
    (λ i. voices_in (c.dials_of-dials.ensures i) (c.envelopes_of-envelopes.ensures i) (c.plays_of-plays.ensures i) (c.feeds_of-feeds.ensures i) (c.currents_of-currents.ensures i) (c.store_of-store.ensures i))
    ∙ voices-again lanes.result lanes.type_inv.1.0.1 _ (histories lanes.result _ lanes.type_inv.1.1) (stored-samples lanes.result lanes.type_inv.1.0.1)
    ∙ lanes.ensures in
    λ i.
    record {
      registers = c.bytes-bytes.ensures i;
      voices = voices i;
      delays = c.delays-delays.ensures i;
      taps = c.taps-taps.ensures i;
      left = c.far-far.ensures.1 i;
      right = c.far-far.ensures.2 i;
      globals = c.far-far.ensures.0 i;
    }

pub dials_of-dials-requires : goal.dials_of-dials-requires
dials_of-dials-requires c = λ j. rw c.lanes-voices.ensures (c.requires.1.voices j)

pub drive-k-requires : goal.drive-k-requires
drive-k-requires c = (
  c.requires.0,
  c.requires.2,
  c.requires.3,
  c.requires.4,
  λ j l. rw c.dials_of-dials.ensures (dials_wound c.lanes-voices.result c.lanes-voices.type_inv.1.0.1 j l),
  subst (λ (p : Parts). Fit (together p)) (sym (taken (goal.at.drive-k-requires c).After-feeds_of-feeds)) c.requires.1,
)

pub returns : goal.returns
returns c =
    let a = c.args in
    let k = c.drive-k.result in
    let d = c.drive-k.ensures.0 in
    let made : c.with_parts.result ≡ together (d 0).parts =
    c.with_parts.ensures
    ∙ (λ i.
    together
    (record {
      registers = (d 0).parts.registers;
      voices = c.voices_of-after.ensures i;
      delays = (d 0).parts.delays;
      taps = (d 0).parts.taps;
      left = k.far.left;
      right = k.far.right;
      globals = as_globals k.far.glob;
    })) in (
      (λ i. record { parts = apart (made i); ram = (d 0).ram; pcm = (d 0).pcm; sheet = (d 0).sheet; old = [] })
          ∙ d
          ∙ (λ i. ticks_of a.work a.n (record { parts = taken (goal.at.returns c).After-feeds_of-feeds i; ram = a.ram.now; pcm = []; sheet = []; old = a.sheet.now })),
      subst (λ (x : Dsp). Fit x) (sym made) c.drive-k.ensures.1,
    )
