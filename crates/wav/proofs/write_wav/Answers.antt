-- The refusals; then the header in the first 44 bytes, and the samples behind it.
use mathlib.Core.Bool.{true}
use mathlib.Core.Path.{◌≡◌, sym, ◌∙◌}
use native.Mathlib.Omega.{arith}
use lib.ListN.{length}
use lib.Seq.{length-take-le}
use Rattle.wav.specs.Wav.{is_sound}
use Rattle.wav.proofs.Files.{unsound, no_room, written}
use Rattle.wav.proofs.write_wav.Goals as goal

pub returns-then-not-is_sound : goal.returns-then-not-is_sound
returns-then-not-is_sound c = sym (unsound _ _ (sym c.is_sound.ensures ∙ c.if-not-is_sound.true))

pub returns-then-file-size : goal.returns-then-file-size
returns-then-file-size c =
    let sound : is_sound (length c.args.pcm.now) ≡ true = (sym c.is_sound.ensures ∙ c.if-not-is_sound.false) in
    sym (no_room _ _ sound c.if-file-size.true)

pub slice_bounds-copy-end-3 : goal.slice_bounds-copy-end-3
slice_bounds-copy-end-3 c = let l = c.if-file-size.false in sym (length-take-le 44 c.args.file.now (omega arith))

pub returns : goal.returns
returns c =
    let sound : is_sound (length c.args.pcm.now) ≡ true = (sym c.is_sound.ensures ∙ c.if-not-is_sound.false) in
    sym (written _ _ sound c.if-file-size.false c.header_of-header.ensures c.copy.ensures c.copy-2.ensures)
