-- Every voice polled first, then the noise, then the voices: the same tick as `tick_of`, which polls each voice in its lane. A poll of a voice
-- passes over the steps of the voices before it, and with its own step makes its turn.
use Rattle.std.proofs.Common.{if◌then◌else◌}
use mathlib.Core.Bool.{Bool, false}
use mathlib.Core.List.{List, [], ◌++◌}
use mathlib.Core.Logic.{◌≢◌}
use mathlib.Core.Path.{◌≡◌, refl, sym, ap, ◌∙◌}
use Prim.Native.Nat.{ℕ, zero, suc, ◌+◌, ◌*◌, ◌^◌, ◌≤◌, ◌<◌}
use native.Mathlib.Nat.{zero-div}
use native.Mathlib.Omega.{arith}
use native.Mathlib.Decide.{ℕ_discrete}
use lib.IntN.{ℤ}
use lib.ListN.{get_or, set, length, length-set}
use lib.Seq.{get_or-set_same, get_or-set_other, set-get_or, set-set, set_comm}
use Rattle.numbers.proofs.Choice.{tested, chosen, chosen_both}
use Rattle.numbers.specs.Bits.{bit, with_bit}
use Rattle.numbers.proofs.Bits.{bit_here, bit_there, with_byte, byte_ext}
use Rattle.numbers.specs.Listed.{turns}
use Rattle.dsp.specs.Machine.{no_voice, apart}
use Rattle.dsp.specs.Keys.{keyed_off, keyed_on, polled_voice, polled_endx, polled_delay}
use Rattle.dsp.specs.Voice.{Sounding}
use Rattle.dsp.specs.Lane.{waited, source_of, Cell, polled_of, waited_of, cell_after, cell_of, put_endx, put_bytes, added, own_cell, turned, Shared}
use Rattle.dsp.specs.Tick.{Round, turn, voices_tick, globals_tick, shared_of, start_of, tick_of}
use Rattle.dsp.specs.declared.voice.Voice.{Voice}
use Rattle.numbers.proofs.Turns.{turns_keep, turns_same}
use Rattle.dsp.proofs.Whole.{full, tick_whole}
use Rattle.rework.specs.Order.{Polled, poll_one, polled_parts, echo_behind, PollFirst}
use Rattle.rework.proofs.Lanes.{cell_in, slot_of}
use Rattle.rework.proofs.Shows.{shown, shown_sized, put_over, put_is, put_sized, put-endx}

-- ---- bits of a byte

with_over : (x n : ℕ) (a b : Bool) → x < 256 → n < 8 → with_bit (with_bit x n a) n b ≡ with_bit x n b
with_over x n a b l m =
    byte_ext _ _ (with_byte (with_bit x n a) n b (with_byte x n a l m) m) (with_byte x n b l m)
    (λ k h. elim (ℕ_discrete k n) [
      | yes p ↦ rw p (bit_here (with_bit x n a) n b ∙ sym (bit_here x n b))
      | no p ↦ bit_there (with_bit x n a) n k b p ∙ bit_there x n k a p ∙ sym (bit_there x n k b p)
    ])

with_swap : (x n j : ℕ) (a b : Bool) → x < 256 → n < 8 → j < 8 → n ≢ j → with_bit (with_bit x j a) n b ≡ with_bit (with_bit x n b) j a
with_swap x n j a b l m q d =
    byte_ext _ _ (with_byte (with_bit x j a) n b (with_byte x j a l q) m) (with_byte (with_bit x n b) j a (with_byte x n b l m) q)
    (λ k h. elim (ℕ_discrete k n) [
      | yes p ↦
          rw p (bit_here (with_bit x j a) n b ∙ sym (bit_there (with_bit x n b) j n a d ∙ bit_here x n b))
      | no p ↦
          bit_there (with_bit x j a) n k b p
          ∙ elim (ℕ_discrete k j) [
            | yes e ↦ rw e (bit_here x j a ∙ sym (bit_here (with_bit x n b) j a))
            | no e ↦ bit_there x j k a e ∙ sym (bit_there (with_bit x n b) j k a e ∙ bit_there x n k b p)
          ]
    ])

-- ---- rounds

-- what a cell of voice n leaves of a round
abbrev put : Shared → ℕ → Round → Cell → Round
put c n r x =
    record {
      voices = set r.voices n x.voice;
      delays = set r.delays n x.delay;
      bytes = put_bytes n x.envx x.out x.endx r.bytes;
      sums = added (bit c.eon n) x.out x.voice.left_vol x.voice.right_vol r.sums;
      row = r.row ++ slot_of x;
    }

abbrev worked : Shared → List ℕ → ℕ → Round → Round
worked c ram n r = put c n r (cell_in c ram n r)

turn_is : (c : Shared) (ram : List ℕ) (n : ℕ) (r : Round) → n < 8 → turn 0xFF [] c ram n r ≡ worked c ram n r
unfolding turn turned
turn_is c ram n r l = rw (full n l)

-- ---- a poll, and the step behind it

-- what all voices see, behind the poll
abbrev behind : Shared → Shared
behind c = record { koff = 0; kon = 0; dir_base = c.dir_base; dir = c.dir; non = c.non; pmon = c.pmon; eon = c.eon; noise = c.noise }

no_bit : (n : ℕ) → bit 0 n ≡ false
no_bit n = rw (zero-div (2 ^ n))

module _ (c : Shared) (ram : List ℕ) where
  abbrev off : ℕ → Bool
  off j = bit c.koff j

  abbrev on : ℕ → Bool
  on j = bit c.kon j

  -- a voice that was polled steps as one that polls itself
  cell_behind : (n : ℕ) (prev : ℤ) (v : Voice) (delay srcn envx : ℕ) (e : Bool)
      → cell_of (behind c) ram n prev (polled_voice (off n) (on n) c.dir_base v) (polled_delay (on n) delay) srcn envx (if on n then false else e) ≡ cell_of c ram n prev v delay srcn envx e
  unfolding cell_of cell_after waited_of polled_of keyed_off keyed_on
  cell_behind n prev v delay srcn envx e =
      let s : Sounding = record { voice = polled_voice (off n) (on n) c.dir_base v; endx = if on n then false else e } in
      let by : Bool → Cell =
      (λ b. cell_after c n (waited ram c.dir srcn (source_of c.pmon n prev) envx (polled_delay b (polled_delay (on n) delay)) (record { voice = polled_voice b b c.dir_base s.voice; endx = polled_endx b s.endx }))) in
      ap by (no_bit n)

  -- a turn in which the voice polls itself, and one behind the poll
  abbrev whole : ℕ → Round → Round
  whole = worked c ram

  abbrev step : ℕ → Round → Round
  step = worked (behind c) ram

  -- the poll of voice j in a round
  abbrev in_round : Round → Polled → Round
  in_round r p = record { voices = p.voices; delays = p.delays; bytes = p.registers; sums = r.sums; row = r.row }

  abbrev of_round : Round → Polled
  of_round r = record { voices = r.voices; delays = r.delays; registers = r.bytes }

  abbrev poll : ℕ → Round → Round
  poll j r = in_round r (poll_one c.koff c.kon c.dir_base j (of_round r))

  record Sized (r : Round) : Type 0 where
    voices : length r.voices ≡ 8
    delays : length r.delays ≡ 8
    bytes : length r.bytes ≡ 128
    endx : get_or r.bytes 0x7C 0 < 256

  -- ---- the registers

  -- a poll stores into ENDX alone
  abbrev cleared : ℕ → ℕ → ℕ
  cleared j w =
      if on j then with_bit w j false else
      w

  abbrev polled : ℕ → List ℕ → List ℕ
  polled j bytes =
      if on j then put_endx j false bytes else
      bytes

  poll_is : (j : ℕ) (bytes : List ℕ) → polled j bytes ≡ set bytes 0x7C (cleared j (get_or bytes 0x7C 0))
  poll_is j bytes = tested (λ (xs : List ℕ). xs ≡ set bytes 0x7C (cleared j (get_or bytes 0x7C 0))) (on j) (λ e. rw e) (λ e. rw e (sym (set-get_or bytes 0x7C 0)))

  -- any byte but ENDX
  poll_byte : (j i : ℕ) (bytes : List ℕ) → i ≢ 0x7C → get_or (polled j bytes) i 0 ≡ get_or bytes i 0
  poll_byte j i bytes h = rw (poll_is j bytes) (get_or-set_other bytes 0x7C i _ 0 h)

  module _ (bytes : List ℕ) (z : length bytes ≡ 128) where
    poll_endx : (j : ℕ) → get_or (polled j bytes) 0x7C 0 ≡ cleared j (get_or bytes 0x7C 0)
    poll_endx j = rw (poll_is j bytes) (get_or-set_same bytes 0x7C _ 0 (omega arith))

    poll_own : (n : ℕ) → bit (get_or (polled n bytes) 0x7C 0) n ≡ (if on n then false else bit (get_or bytes 0x7C 0) n)
    poll_own n =
        let x = get_or bytes 0x7C 0 in
        rw (poll_endx n) (tested (λ (y : ℕ). bit y n ≡ (if on n then false else bit x n)) (on n) (λ e. rw e (bit_here x n false)) (λ e. rw e))

    poll_past : (n j : ℕ) → n ≢ j → bit (get_or (polled j bytes) 0x7C 0) n ≡ bit (get_or bytes 0x7C 0) n
    poll_past n j d =
        let x = get_or bytes 0x7C 0 in
        rw (poll_endx j) (chosen (λ (y : ℕ). bit y n ≡ bit x n) (on j) (bit_there x j n false d) refl)

    -- ENVX, OUTX and the ENDX bit of voice n over a poll
    module _ (n envx : ℕ) (out : ℤ) (endx : Bool) (l : n < 8) (h : get_or bytes 0x7C 0 < 256) where
      -- of the voice itself, under its step
      put-own : put_bytes n envx out endx (polled n bytes) ≡ put_bytes n envx out endx bytes
      put-own =
          let x = get_or bytes 0x7C 0 in
          rw (poll_is n bytes, put_over n envx out endx bytes l z (cleared n x), put_is n envx out endx bytes l z)
          (ap (set (shown n envx out endx bytes l z) 0x7C) (chosen (λ (y : ℕ). with_bit y n endx ≡ with_bit x n endx) (on n) (with_over x n false endx h l) refl))

      -- of another, which passes over it
      put_past : (j : ℕ) → j < 8 → n ≢ j → put_bytes n envx out endx (polled j bytes) ≡ polled j (put_bytes n envx out endx bytes)
      put_past j m d =
          let x = get_or bytes 0x7C 0 in
          let o = shown n envx out endx bytes l z in
          let y = with_bit x n endx in
          rw (put_is n envx out endx bytes l z, poll_is j (set o 0x7C y), poll_is j bytes, put_over n envx out endx bytes l z (cleared j x))
          (rw (set-set, get_or-set_same o 0x7C y 0 (omega (arith, shown_sized n envx out endx bytes l z)))
          (ap (set o 0x7C) (chosen_both (λ (v w : ℕ). with_bit v n endx ≡ w) (on j) (with_swap x n j false endx h l m d) refl)))

  -- ---- lengths

  sized_put : (n : ℕ) (r : Round) (x : Cell) → n < 8 → Sized r → Sized (put c n r x)
  sized_put n r x l h =
      record {
        voices = length-set r.voices n x.voice ∙ h.voices;
        delays = length-set r.delays n x.delay ∙ h.delays;
        bytes = put_sized n x.envx x.out x.endx r.bytes l h.bytes;
        endx = rw (put-endx n x.envx x.out x.endx r.bytes l h.bytes) (with_byte (get_or r.bytes 0x7C 0) n x.endx h.endx l);
      }

  sized_poll : (j : ℕ) (r : Round) → j < 8 → Sized r → Sized (poll j r)
  sized_poll j r l h =
      record {
        voices = length-set r.voices j _ ∙ h.voices;
        delays = length-set r.delays j _ ∙ h.delays;
        bytes = rw (poll_is j r.bytes) (length-set r.bytes 0x7C _ ∙ h.bytes);
        endx = rw (poll_endx r.bytes h.bytes j) (chosen (λ (y : ℕ). y < 256) (on j) (with_byte (get_or r.bytes 0x7C 0) j false h.endx l) h.endx);
      }

  -- ---- a poll and a step

  -- of the voice itself
  fused : (n : ℕ) (r : Round) → n < 8 → Sized r → step n (poll n r) ≡ whole n r
  unfolding own_cell
  fused n r l h =
      let b = r.bytes in
      let v = get_or r.voices n no_voice in
      let w = polled_voice (off n) (on n) c.dir_base v in
      let d = polled_delay (on n) (get_or r.delays n 0) in
      let ev = get_or-set_same r.voices n w no_voice (omega (arith, h.voices)) in
      let ed = get_or-set_same r.delays n d 0 (omega (arith, h.delays)) in
      let es = poll_byte n (n * 16 + 4) b (λ q. absurd (omega arith)) in
      let ex = poll_byte n (n * 16 + 8) b (λ q. absurd (omega arith)) in
      let ee = poll_own b h.bytes n in
      let x = cell_in c ram n r in
      ap (put c n (poll n r))
      ((λ i. cell_of (behind c) ram n r.sums.prev (ev i) (ed i) (es i) (ex i) (ee i))
      ∙ cell_behind n r.sums.prev v (get_or r.delays n 0) (get_or b (n * 16 + 4) 0) (get_or b (n * 16 + 8) 0) (bit (get_or b 0x7C 0) n))
      ∙ (λ i. record {
        voices = set-set r.voices n w x.voice i;
        delays = set-set r.delays n d x.delay i;
        bytes = put-own b h.bytes n x.envx x.out x.endx l h.endx i;
        sums = (whole n r).sums;
        row = (whole n r).row;
      })

  -- of another voice, behind it
  passed : (n j : ℕ) (r : Round) → n < j → j < 8 → Sized r → step n (poll j r) ≡ poll j (step n r)
  unfolding own_cell
  passed n j r q m h =
      let b = r.bytes in
      let l : n < 8 = omega arith in
      let far : n ≢ j = (λ e. absurd (omega arith)) in
      let w : Voice → Voice = polled_voice (off j) (on j) c.dir_base in
      let ev = get_or-set_other r.voices j n (w (get_or r.voices j no_voice)) no_voice far in
      let ed = get_or-set_other r.delays j n (polled_delay (on j) (get_or r.delays j 0)) 0 far in
      let es = poll_byte j (n * 16 + 4) b (λ e. absurd (omega arith)) in
      let ex = poll_byte j (n * 16 + 8) b (λ e. absurd (omega arith)) in
      let ee = poll_past b h.bytes n j far in
      let x = cell_in (behind c) ram n r in
      let back : j ≢ n = (λ e. far (sym e)) in
      ap (put c n (poll j r)) (λ i. cell_of (behind c) ram n r.sums.prev (ev i) (ed i) (es i) (ex i) (ee i))
      ∙ (λ i. record {
        voices =
            (set_comm r.voices j n (w (get_or r.voices j no_voice)) x.voice back
            ∙ ap (λ (v : Voice). set (set r.voices n x.voice) j (w v)) (sym (get_or-set_other r.voices n j x.voice no_voice back))) i;
        delays =
            (set_comm r.delays j n (polled_delay (on j) (get_or r.delays j 0)) x.delay back
            ∙ ap (λ (v : ℕ). set (set r.delays n x.delay) j (polled_delay (on j) v)) (sym (get_or-set_other r.delays n j x.delay 0 back))) i;
        bytes = put_past b h.bytes n x.envx x.out x.endx l h.endx j m far i;
        sums = (step n r).sums;
        row = (step n r).row;
      })

  -- ---- all voices

  -- k polls, from voice n on
  abbrev rest : ℕ → ℕ → Round → Round
  rest zero n r = r
  rest (suc k) n r = rest k (suc n) (poll n r)

  rest_passed : (k m n : ℕ) (r : Round) → n < m → m + k ≤ 8 → Sized r → step n (rest k m r) ≡ rest k m (step n r)
  rest_passed zero m n r q l h = refl
  rest_passed (suc k) m n r q l h =
      rest_passed k (suc m) n (poll m r) (omega arith) (omega arith) (sized_poll m r (omega arith) h) ∙ ap (rest k (suc m)) (passed n m r q (omega arith) h)

  -- n steps behind all polls are n turns that poll themselves, and the polls of the others
  steps-turns : (n k : ℕ) (r : Round) → k + n ≡ 8 → Sized r → turns step n (rest 8 0 r) ≡ rest k n (turns whole n r)
  unfolding turns
  steps-turns zero k r e h = let f : 8 ≡ k = omega arith in ap (λ (i : ℕ). rest i 0 r) f
  steps-turns (suc n) k r e h =
      let a = turns whole n r in
      let s = turns_keep Sized whole 8 (λ j t l i. sized_put j t _ l i) n r (omega arith) h in
      ap (step n) (steps-turns n (suc k) r (omega arith) h)
      ∙ rest_passed k (suc n) n (poll n a) (omega arith) (omega arith) (sized_poll n a (omega arith) s)
      ∙ ap (rest k (suc n)) (fused n a (omega arith) s)

  polls_first : (r : Round) → Sized r → turns (turn 0xFF [] (behind c) ram) 8 (rest 8 0 r) ≡ turns (turn 0xFF [] c ram) 8 r
  polls_first r h =
      turns_same (turn 0xFF [] (behind c) ram) step 8 (turn_is (behind c) ram) 8 (rest 8 0 r) (omega arith) ∙ steps-turns 8 0 r (omega arith) h
      ∙ sym (turns_same (turn 0xFF [] c ram) whole 8 (turn_is c ram) 8 r (omega arith))

-- ---- the tick

-- no poll moves the DIR byte
dir-kept : (koff kon dir : ℕ) (p : Polled) → get_or (turns (poll_one koff kon dir) 8 p).registers 0x5D 0 ≡ get_or p.registers 0x5D 0
dir-kept koff kon dir p =
    turns_keep (λ (q : Polled). get_or q.registers 0x5D 0 ≡ get_or p.registers 0x5D 0) (poll_one koff kon dir) 8
    (λ j q l h. chosen (λ (xs : List ℕ). get_or xs 0x5D 0 ≡ get_or p.registers 0x5D 0) (bit kon j) (get_or-set_other q.registers 0x7C 0x5D _ 0 (λ e. absurd (omega arith)) ∙ h) h)
    8 p (omega arith) refl

pub poll_first : PollFirst
unfolding tick_of voices_tick globals_tick turns
poll_first d ram old v =
    let p = apart d in
    let c = shared_of p.globals p.registers in
    let h : Sized c ram (start_of p) = record { voices = v.voices; delays = v.delays; bytes = v.registers; endx = v.bytes 0x7C } in
    let q = polled_parts p in
    let seen : ℕ → Shared = (λ dir. record { koff = 0; kon = 0; dir_base = c.dir_base; dir = dir; non = c.non; pmon = c.pmon; eon = c.eon; noise = c.noise }) in
    let e = dir-kept c.koff c.kon c.dir_base (record { voices = p.voices; delays = p.delays; registers = p.registers }) in
    tick_whole old [] p ram
    ∙ ap (echo_behind p ram (globals_tick p.globals)) (sym (polls_first c ram (start_of p) h) ∙ (λ i. turns (turn 0xFF [] (seen (sym e i)) ram) 8 (start_of q)))
