-- By KON, and without it by the phase. Under KON the code leaves KOFF out, since the key-on overwrites it.
use borrow.Author.Rules.{rules}
use native.Mathlib.Nat.{mod-eq_of_lt}
use mathlib.Core.Bool.{Bool, true, false, not, ◌&&◌, and-false, or-false}
use mathlib.Core.List.{List}
use mathlib.Core.Path.{◌≡◌, refl, sym, ap, ◌∙◌}
use Prim.Native.Nat.{ℕ}
use native.Mathlib.Omega.{arith}
use lib.IntN.{ℤ, pos}
use lib.ListN.{get_or, length}
use lib.Seq.{get_or-set_same, set-get_or}
use Rattle.numbers.specs.Unsigned.{wrapped}
use Rattle.numbers.proofs.Choice.{chosen}
use Rattle.dsp.specs.With.{moved, with_sample}
use Rattle.dsp.specs.Ram.{entry_of}
use Rattle.dsp.specs.Envelope.{is_off}
use Rattle.dsp.specs.Keys.{keyed_off, keyed_on}
use Rattle.dsp.specs.Voice.{Sounding}
use Rattle.dsp.specs.Lane.{polled_of}
use Rattle.dsp.specs.Inside.{history_of, as_brr, restored}
use Rattle.dsp.specs.declared.voice.Voice.{Voice}
use Rattle.numbers.specs.Bits.{bit}
use Rattle.dsp.proofs.lane.Turned.polled.Goals as goal

-- a key-on overwrites what KOFF changed
on_over_off : (b : Bool) (dir : ℕ) (v : Voice) → keyed_on true dir (keyed_off b v) ≡ keyed_on true dir v
unfolding keyed_on keyed_off
on_over_off b dir v = chosen (λ (w : Voice). keyed_on true dir w ≡ keyed_on true dir v) (b && not (is_off v.adsr.envelope_phase)) refl refl

abbrev sounding : Bool → Voice → Sounding
sounding endx v = record { voice = v; endx = endx }

pub returns-then-bit : goal.returns-then-bit
unfolding polled_of keyed_on
returns-then-bit c =
    let anew : (v : Voice) (x : ℤ) (samples : List ℤ)
    → let a = c.args in
    v.srcn ≡ a.srcn
    → restored (with_sample v (pos 0)) c.begun-envelope.result c.keyed_on-play.result c.begun-feed.result (pos 0) samples
    ≡ keyed_on true a.c.dir_base (restored (with_sample v x) a.self.envelope a.self.play a.self.feed x samples) = (λ v x samples e. let a = c.args in
    let p = c.keyed_on-play.ensures in
    let f = c.begun-feed.ensures in
    let addr = f.0 ∙ ap (λ (n : ℕ). wrapped (entry_of a.c.dir_base n)) (sym e) in
    λ i. moved v (p.0 i) (p.2 i) (pos 0) (p.3 i) (c.begun-envelope.ensures v.adsr i)
    (record { addr = addr i; nibble_idx = p.1 i; prev1 = f.2 i; prev2 = f.3 i; block_end = f.4 i; sample_buffer = samples; buffer_fill = f.1 i })) in
    let a = c.args in
    let kon = sym (rw (mod-eq_of_lt c.requires.0) at c.bit.ensures) ∙ c.if-bit.true in
    let here = get_or-set_same a.currents.now a.j (pos 0) (pos 0) (let sized : length a.currents.now ≡ 8 = search rules in omega arith) in (
      λ v samples endx e. rw (kon, on_over_off (bit a.c.koff a.j) a.c.dir_base (restored (with_sample v (get_or a.currents.now a.j (pos 0))) a.self.envelope a.self.play a.self.feed (get_or a.currents.now a.j (pos 0)) samples), here) (ap (sounding false) (anew v (get_or a.currents.now a.j (pos 0)) samples e)),
      rw kon,
      rw kon,
      rw kon c.put_endx.ensures,
    )

pub returns-then-off : goal.returns-then-off
unfolding polled_of keyed_on keyed_off
returns-then-off c = let a = c.args in
    let kon = sym (rw (mod-eq_of_lt c.requires.0) at c.bit.ensures) ∙ c.if-bit.false in
    let off = sym c.off.ensures ∙ c.if-off.true in (
      λ v samples endx e. rw (kon, off, and-false),
      rw kon,
      rw kon (sym (set-get_or a.delays.now a.j 0)),
      rw kon,
    )

pub returns-else-off : goal.returns-else-off
unfolding polled_of keyed_on keyed_off
returns-else-off c = let a = c.args in
    let kon = sym (rw (mod-eq_of_lt c.requires.0) at c.bit.ensures) ∙ c.if-bit.false in
    let koff = rw (kon, or-false) at c.requires.1 in
    let off = sym c.off.ensures ∙ c.if-off.false in
    let p = c.keyed_off-play.ensures in
    let x = get_or a.currents.now a.j (pos 0) in (
      λ v samples endx e. rw (kon, koff, off) (λ i. sounding endx (moved v (p i).key_on (p i).pitch_counter x (history_of (p i)) (c.released-envelope.ensures v.adsr i) (as_brr (p i) a.self.feed samples))),
      rw kon,
      rw kon (sym (set-get_or a.delays.now a.j 0)),
      rw kon,
    )
