-- The block that is decoded, with the play anew and the envelope cut where it mutes; then the bytes, by the end flag.
use Rattle.std.proofs.Common.{if◌then◌else◌}
use mathlib.Core.Bool.{Bool, true, ◌||◌}
use mathlib.Core.Path.{◌≡◌, refl, ap, ◌∙◌}
use Prim.Native.Nat.{◌+◌, ◌*◌}
use lib.ListN.{get_or}
use Rattle.numbers.specs.Choice.{◌=?◌}
use Rattle.dsp.specs.Voice.{decoded_at, next_address}
use Rattle.dsp.specs.Lane.{put_endx}
use Rattle.dsp.specs.Inside.{as_envelope, as_brr, as_sounding, block_address, gone_on}
use Rattle.dsp.specs.declared.adsr.Envelope.{Envelope}
use Rattle.dsp.specs.declared.voice.Voice.{Voice}
use Rattle.dsp.proofs.Plays.{anew, cut_by, block_changed}
use Rattle.dsp.proofs.play.Begun.changed.Goals as goal
use Rattle.dsp.proofs.play.Begun.changed.Goals.{After-resumed-play, Joined-feed, then-feed, else-feed}

bytes_are : (c : Joined-feed) → (let a = c.args in c.if-feed.bytes ≡ (if c.next_block-z.result.feed.block_end then put_endx a.j true a.bytes.now else a.bytes.now))
bytes_are c = elim c.if-feed.branch [ then-feed w ↦ w.bytes-is ∙ w.put_endx.ensures ∙ rw w.if-feed.true | else-feed w ↦ w.bytes-is ∙ rw w.if-feed.false ]

turned : (c : After-resumed-play) (v : Voice) (endx : Bool) (y : Envelope)
    → (let a = c.args in
    let z = c.next_block-z.result in
    as_envelope v.adsr y ≡ cut_by z.mutes a.e v.adsr
    → as_sounding v y c.resumed-play.result z.feed c.next_block-z.new.samples (endx || z.feed.block_end)
    ≡ gone_on (a.f.buffer_fill =? 0) a.self.rest
    (decoded_at a.ram.now (block_address a.ram.now a.c.dir (get_or a.bytes.now (a.j * 16 + 4) 0) (as_brr a.self.play a.f a.samples.now))
    (as_sounding v a.e a.self.play a.f a.samples.now endx)))
unfolding next_address
turned c v endx y cut =
    let a = c.args in
    let z = c.next_block-z.result in
    let b = c.next_block-z.ensures in
    let q = anew z.mutes a.self.play in
    c.resumed-play.ensures q refl refl refl refl v y z.feed (endx || z.feed.block_end)
    ∙ ap (gone_on (a.f.buffer_fill =? 0) a.self.rest) (block_changed v a.e y a.self.play a.f z.feed a.samples.now _ endx a.ram.now _ z.mutes (b a.self.play).1 cut ((b q).0 refl))

pub returns-then-z : goal.returns-then-z
returns-then-z c =
    let p = goal.at.returns-then-z c in
    (λ v endx. turned p.After-resumed-play v endx c.cut-envelope.result (ap (as_envelope v.adsr) c.cut-envelope.ensures ∙ rw c.if-z.true), bytes_are p.Joined-feed)

pub returns-else-z : goal.returns-else-z
returns-else-z c =
    let p = goal.at.returns-else-z c in
    (λ v endx. turned p.After-resumed-play v endx c.args.e (rw c.if-z.false), bytes_are p.Joined-feed)
