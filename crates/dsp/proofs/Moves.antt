-- What a voice's tick keeps of a voice, said once for whatever it is: what its parts keep. So a tick keeps the volumes.
use mathlib.Core.Bool.{Bool, true, false, not, ◌&&◌}
use mathlib.Core.List.{List}
use mathlib.Core.Path.{◌≡◌, refl}
use Prim.Native.Nat.{ℕ, zero, suc, ◌≤◌}
use lib.IntN.{ℤ}
use Rattle.numbers.specs.Choice.{◌=?◌}
use Rattle.numbers.specs.Bits.{bit}
use Rattle.numbers.proofs.Choice.{tested, chosen}
use Rattle.dsp.specs.With.{with_state, with_key, with_envelope, with_position, with_brr}
use Rattle.dsp.specs.Envelope.{is_off, envelope_tick}
use Rattle.dsp.specs.Keys.{silenced, keyed_off, keyed_on, polled_delay}
use Rattle.dsp.specs.Brr.{DecodedBlock, decode_block}
use Rattle.dsp.specs.Voice.{Sounding, PitchSource, position_of, samples_taken, block_of, filled, placed, decoded_at, next_block, resolved, pushed, last_of, take_one, consume, idle, advanced, interpolated, Stepped, sounded, voice_step}
use Rattle.dsp.specs.Lane.{Shared, polled_of, Waiting, waited, source_of, waited_of, noised, cell_after, cell_of, own_cell}
use Rattle.dsp.specs.declared.adsr.EnvelopePhase.TheVariants.{Release}
use Rattle.dsp.specs.declared.voice.Voice.{Voice}
use Rattle.dsp.proofs.Pitch.{position_le}

-- K is kept by a new block, silence, a sample that is not a block's last, and a position
pub record KeptByPlay (K : Voice → Type 0) : Type 0 where
  pub fill : (v : Voice) (history : List ℤ) (ram : List ℕ) (a : ℕ) (p q : ℤ) → K v → K (with_brr v history (block_of a (decode_block ram a p q)))
  pub mute : (v : Voice) → K v → K (silenced v)
  pub push : (v : Voice) → (v.brr.nibble_idx =? 15) ≡ false → K v → K (pushed v)
  pub place : (v : Voice) (p : ℕ) → p ≤ 0x7FFF → K v → K (with_position v p)

-- and by the envelope, the interpolation, KOFF and KON
pub record KeptByTick (K : Voice → Type 0) : Type 0 where
  pub played : KeptByPlay K
  pub tick : (v : Voice) → K v → K (with_envelope v (envelope_tick v.adsr))
  pub interpolate : (v : Voice) → K v → K (interpolated v)
  pub off : (v : Voice) → K v → K (with_key v false (with_state v.adsr v.adsr.envelope_level Release v.adsr.tick_counter))
  pub on : (dir : ℕ) (v : Voice) → K v → K (keyed_on true dir v)

module _ {K : Voice → Type 0} (k : KeptByPlay K) (ram : List ℕ) where
  abbrev InTick : Sounding → Type 0
  InTick s = K s.voice

  placed_keeps : (a : ℕ) (d : DecodedBlock) (v : Voice) → K (filled a d v) → K (placed a d v)
  unfolding placed
  placed_keeps a d v h = chosen K (d.end && not d.loops) (k.mute (filled a d v) h) h

  pub resolved_keeps : (s : Sounding) → K s.voice → K (resolved ram s).voice
  unfolding resolved decoded_at
  resolved_keeps s h = chosen InTick (s.voice.brr.buffer_fill =? 0) (placed_keeps _ _ s.voice (k.fill s.voice _ ram _ _ _ h)) h

  pub taken_keeps : (dir srcn : ℕ) (s : Sounding) → K s.voice → K (take_one ram dir srcn s).voice
  unfolding take_one next_block decoded_at pushed
  taken_keeps dir srcn s h =
      tested InTick (last_of s) (λ e. placed_keeps _ _ (pushed s.voice) (k.fill s.voice _ ram _ _ _ h)) (λ e. k.push s.voice e h)

  consumed_keeps : (dir srcn n : ℕ) (s : Sounding) → K s.voice → K (consume ram dir srcn n s).voice
  unfolding consume
  consumed_keeps dir srcn zero s h = h
  consumed_keeps dir srcn (suc n) s h =
      let t = take_one ram dir srcn s in
      let l = taken_keeps dir srcn s h in
      chosen InTick (last_of s && not t.voice.key_on) l (consumed_keeps dir srcn n t l)

  pub played_keeps : (dir srcn : ℕ) (x : PitchSource) (s : Sounding) → K s.voice → K (advanced ram dir srcn x (resolved ram s)).voice
  unfolding advanced
  played_keeps dir srcn x s h =
      let r = (resolved ram s).voice in
      consumed_keeps dir srcn (samples_taken x r) _ (k.place r (position_of x r) (position_le x r) (resolved_keeps s h))

module _ {K : Voice → Type 0} (k : KeptByTick K) (c : Shared) (j : ℕ) where
  pub polled_keeps : (v : Voice) (endx : Bool) → K v → K (polled_of c j v endx).voice
  unfolding polled_of keyed_off keyed_on
  polled_keeps v endx h =
      let off = chosen K (bit c.koff j && not (is_off v.adsr.envelope_phase)) (k.off v h) h in
      chosen K (bit c.kon j) (k.on c.dir_base (keyed_off (bit c.koff j) v) off) off

  stepped_keeps : (ram : List ℕ) (srcn : ℕ) (x : PitchSource) (envx : ℕ) (s : Sounding) → K s.voice → K (voice_step ram c.dir srcn x envx s).sounding.voice
  unfolding voice_step sounded
  stepped_keeps ram srcn x envx s h =
      let e : Sounding = record { voice = with_envelope s.voice (envelope_tick s.voice.adsr); endx = s.endx } in
      let t = k.tick s.voice h in
      chosen (λ (y : Stepped). K y.sounding.voice) (idle e.voice) t (k.interpolate _ (played_keeps k.played ram c.dir srcn x e t))

  pub waited_keeps : (ram : List ℕ) (prev : ℤ) (v : Voice) (delay srcn envx : ℕ) (endx : Bool) → K v → K (waited_of c ram j prev v delay srcn envx endx).sounding.voice
  unfolding waited_of waited
  waited_keeps ram prev v delay srcn envx endx h =
      let p = polled_keeps v endx h in
      chosen (λ (w : Waiting). K w.sounding.voice) (polled_delay (bit c.kon j) delay =? 0) (stepped_keeps ram srcn (source_of c.pmon j prev) envx _ p) p

-- the volumes of a voice that is worked
pub volumes_kept : (c : Shared) (ram : List ℕ) (j : ℕ) (prev : ℤ) (v : Voice) (delay : ℕ) (bytes : List ℕ)
    → (let w = (own_cell c ram j prev v delay bytes).voice in (v.left_vol ≡ w.left_vol) × (v.right_vol ≡ w.right_vol))
unfolding own_cell cell_of cell_after noised pushed interpolated keyed_on
volumes_kept c ram j prev v delay bytes =
    let Same : Voice → Type 0 = λ (w : Voice). (v.left_vol ≡ w.left_vol) × (v.right_vol ≡ w.right_vol) in
    let same : KeptByTick Same =
    record {
      played = record { fill = λ w y r a p q h. h; mute = λ w h. h; push = λ w e h. h; place = λ w p l h. h };
      tick = λ w h. h;
      interpolate = λ w h. h;
      off = λ w h. h;
      on = λ dir w h. h;
    } in
    waited_keeps same c j ram prev v delay _ _ _ (refl, refl)
