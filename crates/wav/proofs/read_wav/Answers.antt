-- The refusals of the file, then of the destination; then the samples.
use Rattle.std.proofs.Common.{◌≡◌, Err, refl, arith, rules}
use Rattle.refusal.proofs.Numbers.{positive}
use Rattle.wav.proofs.Files.{long, unread, no_place, restored}
use Rattle.wav.proofs.read_wav.Goals as goal

pub returns-in_err-frames : goal.returns-in_err-frames
returns-in_err-frames c = let a = c.args in
    let e : c.from_residual.result ≡ Err c.in_err-frames.field-0.0 = search rules in
    let p = positive c.in_err-frames.field-0.0 in
    rw e (unread a.file.now c.in_err-frames.ensures a.pcm.now (λ z. absurd (omega arith)))

pub returns-then-pcm-frames : goal.returns-then-pcm-frames
returns-then-pcm-frames c = let a = c.args in
    let h = c.if-pcm-frames.true in
    no_place a.file.now c.in_ok-frames.ensures a.pcm.now refl (λ e. h (omega arith))

pub slice_bounds-copy-count : goal.slice_bounds-copy-count
slice_bounds-copy-count c = long c.args.file.now c.in_ok-frames.ensures refl

pub slice_bounds-copy-start : goal.slice_bounds-copy-start
slice_bounds-copy-start c = long c.args.file.now c.in_ok-frames.ensures refl

pub returns : goal.returns
returns c = let a = c.args in
    let h = c.if-pcm-frames.false in
    restored a.file.now c.in_ok-frames.ensures a.pcm.now refl (omega arith) c.copy.ensures
