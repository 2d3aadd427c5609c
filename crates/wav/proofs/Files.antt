-- What `is_sound` and `is_wav` say, in numbers and rows; then the writer and the reader, outcome by outcome.
use mathlib.Core.Bool.{Bool, true, false, not, ◌&&◌}
use mathlib.Core.List.{List, ◌++◌}
use mathlib.Core.Path.{◌≡◌, refl, sym, ap, ◌∙◌, subst⁻¹}
use Prim.Native.Nat.{ℕ, ◌+◌, ◌-◌, ◌/◌, ◌%◌, ◌≤◌, ◌<◌}
use native.Mathlib.Omega.{arith}
use lib.Dec.{lit≤}
use lib.ListN.{length, take, drop, length-append, length-drop, take-append-drop}
use lib.Seq.{length-take-le, take_all}
use borrow.Author.Tests.{eqb-true, leb-true, eq-eqb, ne_eqb}
use borrow.Rule.Slice.PartMut.{put_mid, mid_of}
use Rattle.numbers.specs.Bytes.{copied}
use Rattle.numbers.specs.Choice.{◌≤?◌, ◌=?◌}
use Rattle.numbers.proofs.Choice.{chosen}
use Rattle.numbers.proofs.Parts.{Written, sized, part-put, all_written, copied_whole, mid_length}
use Rattle.wav.specs.Wav.{header_of, frames_in, is_sound, header_size, wav_of, same_bytes, samples_in, is_wav, data_size, filed_of, refused_by, frames_of, Restored, read_of}
use Rattle.wav.specs.Wav.{Frames}
use Rattle.wav.proofs.Rows.{both, same-is, same-before}

pub sound_whole : (size : ℕ) → is_sound size ≡ true → data_size (frames_in size) ≡ size
sound_whole size e = let h : size % 4 ≡ 0 = eqb-true _ _ (both (size % 4 =? 0) (size / 4 ≤? 32000) e).0 in omega arith

pub sound_few : (size : ℕ) → is_sound size ≡ true → frames_in size ≤ 32000
sound_few size e = leb-true _ _ (both (size % 4 =? 0) (size / 4 ≤? 32000) e).1

pub header_length : (frames : ℕ) → length (header_of frames) ≡ header_size
unfolding header_of
header_length frames = refl

pub wav_length : (pcm : List ℕ) → length (wav_of pcm) ≡ header_size + length pcm
unfolding wav_of
wav_length pcm = length-append (header_of (frames_in (length pcm))) pcm ∙ ap (λ (n : ℕ). n + length pcm) (header_length (frames_in (length pcm)))

-- a file of this layout is the file of its samples
pub wav_is : (file : List ℕ) → is_wav file ≡ true → (is_sound (length (samples_in file)) ≡ true) × (file ≡ wav_of (samples_in file))
unfolding is_wav
wav_is file e = let t = both (is_sound (length (samples_in file))) (same_bytes file (wav_of (samples_in file))) e in (t.0, same-is _ _ t.1)

pub wav_size : (file : List ℕ) → is_wav file ≡ true → length file ≡ header_size + length (samples_in file)
wav_size file e = ap length (wav_is file e).1 ∙ wav_length (samples_in file)

-- by its length and its first 44 bytes
pub by_header : (file : List ℕ) → header_size ≤ length file
    → is_wav file ≡ (is_sound (length file - header_size) && same_bytes (take header_size file) (header_of (frames_in (length file - header_size))))
unfolding is_wav wav_of
by_header file h =
    let n = length file - header_size in
    let s = samples_in file in
    let front : same_bytes file (header_of (frames_in n) ++ s) ≡ same_bytes (take header_size file) (header_of (frames_in n)) =
    ap (λ (f : List ℕ). same_bytes f (header_of (frames_in n) ++ s)) (sym (take-append-drop header_size file))
    ∙ same-before (take header_size file) (header_of (frames_in n)) s (length-take-le header_size file h ∙ sym (header_length (frames_in n))) in
    ap (λ (k : ℕ). is_sound k && same_bytes file (header_of (frames_in k) ++ s)) (length-drop header_size file) ∙ ap (λ (t : Bool). is_sound n && t) front

-- what holds where a test fails, and where it passes, holds
pub tested : {P : Type 0} (t : Bool) → (t ≡ false → P) → (t ≡ true → P) → P
tested true f g = g refl
tested false f g = f refl

-- a shorter one is none
pub short_none : (file : List ℕ) → length file < header_size → is_wav file ≡ false
short_none file h = tested (is_wav file) (λ e. e) (λ e. let l = wav_size file e in absurd (omega arith))

-- ---- the writer

module _ (pcm file : List ℕ) where
  pub unsound : is_sound (length pcm) ≡ false → filed_of pcm file ≡ record { refusal = 10; file = file }
  unfolding filed_of
  unsound e = rw e

  pub no_room : is_sound (length pcm) ≡ true → (length file ≡ header_size + length pcm → ⊥) → filed_of pcm file ≡ record { refusal = 10; file = file }
  unfolding filed_of
  no_room e h = rw (e, ne_eqb _ _ h)

  pub wrote : is_sound (length pcm) ≡ true → length file ≡ header_size + length pcm → filed_of pcm file ≡ record { refusal = 0; file = wav_of pcm }
  unfolding filed_of
  wrote e h = rw (e, eq-eqb _ _ h)

  -- the header is copied to the front, then the samples to what is behind it
  pub written : is_sound (length pcm) ≡ true → length file ≡ header_size + length pcm
      → {header front back : List ℕ} → header ≡ header_of (frames_in (length pcm)) → front ≡ copied header (take header_size file)
      → let new = front ++ drop header_size file in let rest = length new - header_size in
      back ≡ copied pcm (mid_of header_size rest new) → filed_of pcm file ≡ record { refusal = 0; file = put_mid header_size rest new back }
  unfolding wav_of
  written e h {header} {front} {back} he fe be =
      let k = frames_in (length pcm) in
      let new = front ++ drop header_size file in
      let f : front ≡ header_of k =
      fe ∙ ap (λ (l : List ℕ). copied l (take header_size file)) he
      ∙ copied_whole (header_of k) (take header_size file) (length-take-le header_size file (omega arith) ∙ sym (header_length k)) in
      let w : Written file new header_size (header_of k) = record { is = ap (λ (l : List ℕ). l ++ drop header_size file) f; long = header_length k } in
      let l = sized w (omega arith) in
      let m : length new - header_size ≡ length pcm = omega arith in
      let b : back ≡ pcm = be ∙ copied_whole pcm (mid_of header_size (length new - header_size) new) (mid_length header_size (length new - header_size) new (omega arith) ∙ m) in
      let p = part-put w (length pcm) pcm (λ i. put_mid header_size (m i) new (b i)) refl in
      wrote e h ∙ ap (λ (x : List ℕ). record { refusal = 0; file = x }) (sym (all_written p (sym h)))

-- ---- the reader

module _ (file : List ℕ) where
  pub not_frames : is_wav file ≡ false → frames_of file ≡ refused_by 13
  unfolding frames_of
  not_frames e = rw e

  pub frames_are : is_wav file ≡ true → frames_of file ≡ record { refusal = 0; frames = frames_in (length file - header_size) }
  unfolding frames_of
  frames_are e = rw e (ap (λ (n : ℕ). record { refusal = 0; frames = frames_in n }) (length-drop header_size file))

-- what `wav_frames` found
module _ (file : List ℕ) {found : Frames} (is : found ≡ frames_of file) where
  -- a file that is not refused has this layout
  unrefused : found.refusal ≡ 0 → is_wav file ≡ true
  unrefused z = tested (is_wav file) (λ e. let k = ap (λ (f : Frames). f.refusal) (is ∙ not_frames file e) in absurd (omega arith)) (λ e. e)

  pub long : found.refusal ≡ 0 → header_size ≤ length file
  long z = let l = wav_size file (unrefused z) in omega arith

  -- its frames are those of what stands behind the header
  counted : is_wav file ≡ true → found.frames ≡ frames_in (length (samples_in file))
  counted e = ap (λ (f : Frames). f.frames) (is ∙ frames_are file e) ∙ ap frames_in (sym (length-drop header_size file))

  pub few : found.frames ≤ 32000
  few =
      tested (is_wav file) (λ e. subst⁻¹ (λ (f : Frames). f.frames ≤ 32000) (is ∙ not_frames file e) (lit≤ tt))
      (λ e. subst⁻¹ (λ (n : ℕ). n ≤ 32000) (counted e) (sound_few _ (wav_is file e).0))

  pub whole : found.refusal ≡ 0 → data_size found.frames ≡ length (samples_in file)
  whole z = ap data_size (counted (unrefused z)) ∙ sound_whole _ (wav_is file (unrefused z)).0

  module _ (pcm : List ℕ) where
    pub unread : (found.refusal ≡ 0 → ⊥) → record { frames = found; pcm = pcm } ≡ read_of file pcm
    unfolding read_of
    unread h = rw (← is, ne_eqb _ _ h)

    pub no_place : found.refusal ≡ 0 → (length pcm ≡ data_size found.frames → ⊥) → record { frames = refused_by 10; pcm = pcm } ≡ read_of file pcm
    unfolding read_of
    no_place z h = rw (← is, eq-eqb _ _ z, ne_eqb _ _ h)

    -- what is behind the header is copied
    pub restored : found.refusal ≡ 0 → length pcm ≡ data_size found.frames → {back : List ℕ}
        → back ≡ copied (take (length file - header_size) (samples_in file)) pcm → record { frames = found; pcm = back } ≡ read_of file pcm
    unfolding read_of
    restored z h e =
        let l = length-drop header_size file in
        let t : take (length file - header_size) (samples_in file) ≡ samples_in file = take_all (length file - header_size) (samples_in file) (omega arith) in
        let b = e ∙ ap (λ (x : List ℕ). copied x pcm) t ∙ copied_whole (samples_in file) pcm (h ∙ whole z) in
        rw (← is, eq-eqb _ _ z, eq-eqb _ _ h) (ap (λ (x : List ℕ). record { frames = found; pcm = x }) b)

abbrev Few : Restored → Type 0
Few left = left.frames.frames ≤ 32000

-- a reader tells of no more
pub read_few : (file pcm : List ℕ) {left : Restored} → left ≡ read_of file pcm → left.frames.frames ≤ 32000
unfolding read_of
read_few file pcm e =
    let n = few file {found = frames_of file} refl in
    subst⁻¹ Few e
    (chosen Few (not ((frames_of file).refusal =? 0)) n (chosen Few (not (length pcm =? data_size (frames_of file).frames)) (lit≤ tt) n))
