-- A tick that works every lane: it does not see the sheet that it found, and its sample is what `render_audio_single` gives after it.
use mathlib.Core.Bool.{true}
use mathlib.Core.List.{List}
use mathlib.Core.Path.{sym, ◌≡◌, refl, ap, ◌∙◌}
use Prim.Native.Nat.{ℕ, zero, suc, ◌≤◌, ◌<◌}
use native.Mathlib.Omega.{arith}
use borrow.Author.Count.{below_none, below_more}
use lib.ListN.{get_or, set, length}
use Rattle.numbers.specs.Bits.{bit}
use Rattle.numbers.specs.Listed.{turns}
use Rattle.dsp.specs.Machine.{no_voice, Parts, globals_of, apart, together}
use Rattle.dsp.specs.Fit.{Fit}
use Rattle.dsp.specs.Mix.{silent, with_output, master_of, render_of, Stereo}
use Rattle.dsp.specs.Sheet.{pair_bytes}
use Rattle.dsp.specs.Echo.{echo_lane}
use Rattle.dsp.specs.Lane.{cell_after, cell_of, own_cell, added, turned, Shared}
use Rattle.dsp.specs.Tick.{Round, turn, voices_tick, everything, start_of, shared_of, mixed_from, frame_of, tick_of}
use Rattle.dsp.specs.declared.voice.Voice.{Voice}
use Rattle.dsp.specs.declared.registers.Dsp.{Dsp}
use Rattle.numbers.proofs.Turns.{turns_same, set_here, set_there}
use Rattle.dsp.proofs.Ticks.{RoundFit, fit-kept-turns, fit-kept_tick}
use Rattle.dsp.proofs.Outputs.{dry_up_to, dry_whole}
use Rattle.dsp.proofs.Fits.{facts_fit}

-- the mask of all eight
abbrev Has : ℕ → Type 0
Has j = bit 0xFF j ≡ true

pub full : (j : ℕ) → j < 8 → bit 0xFF j ≡ true
full =
    below_more Has 7
    (below_more Has 6 (below_more Has 5 (below_more Has 4 (below_more Has 3 (below_more Has 2 (below_more Has 1 (below_more Has 0 (below_none Has) refl) refl) refl) refl) refl) refl) refl)
    refl

pub tick_whole : (old found : List ℕ) (p : Parts) (ram : List ℕ) → tick_of everything old p ram ≡ tick_of everything found p ram
unfolding tick_of voices_tick echo_lane turn turned
tick_whole old found p ram =
    let c = shared_of p.globals p.registers in
    ap (mixed_from true old p ram) (turns_same (turn 0xFF old c ram) (turn 0xFF found c ram) 8 (λ j r l. rw (full j l)) 8 (start_of p) (omega arith))

-- ---- a tick is `step`, then `render_audio_single`

-- the voices before n are not changed by a store at n
dry-before : (vs : List Voice) (y : Voice) (n : ℕ) → dry_up_to (set vs n y) n ≡ dry_up_to vs n
dry-before vs y n =
    turns_same (λ k s. with_output s (get_or (set vs n y) k no_voice)) (λ k s. with_output s (get_or vs k no_voice)) n (λ m s h. ap (with_output s) (set_there no_voice vs n m y h)) n silent (omega arith)

-- after n voices the dry sum is that of the first n, as they now stand
dry-after : (old : List ℕ) (c : Shared) (ram : List ℕ) (n : ℕ) (r : Round) → n ≤ 8 → RoundFit r → r.sums.dry ≡ silent
    → (turns (turn 0xFF old c ram) n r).sums.dry ≡ dry_up_to (turns (turn 0xFF old c ram) n r).voices n
unfolding turns turn turned added own_cell cell_of cell_after
dry-after old c ram zero r l f e = e
dry-after old c ram (suc n) r l f e =
    let s = turns (turn 0xFF old c ram) n r in
    let g = fit-kept-turns 0xFF old c ram n r (omega arith) f in
    let y = (own_cell c ram n s.sums.prev (get_or s.voices n no_voice) (get_or s.delays n 0) s.bytes).voice in
    let before = sym (dry-before s.voices y n ∙ sym (dry-after old c ram n r (omega arith) f e)) in
    let here = sym (set_here no_voice s.voices n y (omega arith)) in
    let after = turn 0xFF old c ram n s in
    let voices : after.voices ≡ set s.voices n y = rw (full n (omega arith)) in
    let dry : after.sums.dry ≡ with_output s.sums.dry y = rw (full n (omega arith)) in
    dry ∙ (λ i. with_output (before i) (here i)) ∙ sym (ap (λ (vs : List Voice). dry_up_to vs (suc n)) voices)

-- the sample of a tick is the stereo sample of the record that it leaves
pub tick_renders : (d : Dsp) (ram old : List ℕ) → length ram ≡ 0x10000 → length d.registers ≡ 128 → length d.voices ≡ 8 → length d.kon_delay ≡ 8 → Fit d
    → (tick_of everything old (apart d) ram).frame
    ≡ pair_bytes (render_of (together (tick_of everything old (apart d) ram).parts)).left (render_of (together (tick_of everything old (apart d) ram).parts)).right
unfolding tick_of voices_tick render_of
tick_renders d ram old lr lb lv ld h =
    let p = apart d in
    let c = shared_of p.globals p.registers in
    let f = facts_fit _ (fit-kept_tick everything d ram old lr lb lv ld h) in
    let r : RoundFit (start_of p) = record { bytes = lb; count = lv; waits = ld; voices = h.voices; delays = h.delays } in
    let e = dry-after old c ram 8 (start_of p) (omega arith) r refl ∙ dry_whole _ 8 (fit-kept-turns 0xFF old c ram 8 (start_of p) (omega arith) r).count in
    rw f (ap (λ (s : Stereo). frame_of (master_of (globals_of (together (tick_of everything old p ram).parts)) s)) e)
