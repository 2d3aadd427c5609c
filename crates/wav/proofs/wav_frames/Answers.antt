-- By its length, then by its first 44 bytes.
use mathlib.Core.Bool.{true, false, ◌&&◌}
use mathlib.Core.Path.{◌≡◌, sym, ap, ◌∙◌}
use Prim.Native.Nat.{◌-◌}
use lib.ListN.{length, take}
use Rattle.wav.specs.Wav.{header_of, frames_in, is_sound, same_bytes}
use Rattle.wav.proofs.Files.{by_header, short_none, not_frames, frames_are}
use Rattle.wav.proofs.wav_frames.Goals as goal

pub returns-then-file-lt-HEADER_SIZE : goal.returns-then-file-lt-HEADER_SIZE
returns-then-file-lt-HEADER_SIZE c = sym (not_frames _ (short_none _ c.if-file-lt-HEADER_SIZE.true))

pub returns-then-not-is_sound : goal.returns-then-not-is_sound
returns-then-not-is_sound c = let f = c.args.file.now in
    let u : is_sound (length f - 44) ≡ false = sym c.is_sound.ensures ∙ c.if-not-is_sound.true in
    sym (not_frames f (by_header f c.if-file-lt-HEADER_SIZE.false ∙ rw u))

pub returns-then-not-same : goal.returns-then-not-same
returns-then-not-same c = let f = c.args.file.now in
    let s : is_sound (length f - 44) ≡ true = sym c.is_sound.ensures ∙ c.if-not-is_sound.false in
    let n : same_bytes (take 44 f) (header_of (frames_in (length f - 44))) ≡ false =
    ap (same_bytes (take 44 f)) (sym c.header_of-header.ensures) ∙ sym c.same.ensures ∙ c.if-not-same.true in
    sym (not_frames f (by_header f c.if-file-lt-HEADER_SIZE.false ∙ (λ i. s i && n i)))

pub returns : goal.returns
returns c = let f = c.args.file.now in
    let s : is_sound (length f - 44) ≡ true = sym c.is_sound.ensures ∙ c.if-not-is_sound.false in
    let n : same_bytes (take 44 f) (header_of (frames_in (length f - 44))) ≡ true =
    ap (same_bytes (take 44 f)) (sym c.header_of-header.ensures) ∙ sym c.same.ensures ∙ c.if-not-same.false in
    sym (frames_are f (by_header f c.if-file-lt-HEADER_SIZE.false ∙ (λ i. s i && n i)))
