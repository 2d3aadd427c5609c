-- A sound comes back from its file, and a file from its sound.
use mathlib.Core.Bool.{true, ◌&&◌}
use mathlib.Core.List.{List, []}
use mathlib.Core.Logic.{◌⊎◌, inl, inr, ⊎_elim}
use mathlib.Core.Path.{◌≡◌, refl, sym, ap, ◌∙◌}
use Prim.Native.Nat.{ℕ, suc, ◌+◌, ◌*◌, ◌/◌, ◌%◌, ◌≤◌}
use native.Mathlib.Omega.{arith}
use lib.ListN.{length}
use lib.Seq.{drop_at}
use borrow.Author.Tests.{eqb-true, eqb-false, eq-eqb, le-leb}
use Rattle.numbers.specs.Choice.{◌=?◌}
use Rattle.wav.specs.Wav.{Filed, header_of, frames_in, is_sound, header_size, wav_of, same_bytes, samples_in, is_wav, filed_of, refused_by, frames_of, Restored, read_of}
use Rattle.wav.specs.Laws.{ReadsBack, WritesBack, OneFile, TellsFiles, NoFrames, Refuses}
use Rattle.wav.proofs.Rows.{same_self}
use Rattle.wav.proofs.Files.{sound_whole, header_length, wav_length, wav_is, wav_size, tested, unsound, no_room, wrote}

-- behind the header of a sound's file stands the sound
samples_back : (pcm : List ℕ) → samples_in (wav_of pcm) ≡ pcm
unfolding wav_of
samples_back pcm = drop_at (header_of (frames_in (length pcm))) pcm header_size (header_length (frames_in (length pcm)))

file_of : (pcm : List ℕ) → is_sound (length pcm) ≡ true → is_wav (wav_of pcm) ≡ true
unfolding is_wav
file_of pcm s =
    let e = samples_back pcm in
    ap (λ (p : List ℕ). is_sound (length p) && same_bytes (wav_of pcm) (wav_of p)) e ∙ (λ i. s i && same_self (wav_of pcm) i)

pub tells_files : TellsFiles
tells_files file = (λ e. record { pcm = samples_in file; sound = (wav_is file e).0; is = (wav_is file e).1 }, λ f. ap is_wav f.is ∙ file_of f.pcm f.sound)

pub no_frames : NoFrames
no_frames = (file_of [] refl, wav_length [])

pub one_file : OneFile
one_file file₁ file₂ e₁ e₂ s = (wav_is file₁ e₁).1 ∙ ap wav_of s ∙ sym (wav_is file₂ e₂).1

-- ---- each outcome of the reader and of the writer

got : (file pcm : List ℕ) → is_wav file ≡ true → length pcm ≡ length (samples_in file)
    → read_of file pcm ≡ record { frames = record { refusal = 0; frames = frames_in (length (samples_in file)) }; pcm = samples_in file }
unfolding read_of frames_of
got file pcm e l = rw (e, eq-eqb _ _ (l ∙ sym (sound_whole _ (wav_is file e).0)))

-- it is of this layout and its samples are taken, or else the refusal is what is told, and nothing is
abbrev Outcome : List ℕ → List ℕ → Type 0
Outcome file pcm = ((is_wav file ≡ true) × (read_of file pcm ≡ record { frames = record { refusal = 0; frames = frames_in (length (samples_in file)) }; pcm = samples_in file }))
    ⊎ ((k : ℕ) × (read_of file pcm ≡ record { frames = refused_by (suc k); pcm = pcm }))

outcome : (file pcm : List ℕ) → Outcome file pcm
unfolding read_of frames_of
outcome file pcm =
    tested (is_wav file) (λ e. inr (12, rw e))
    (λ e. tested (length pcm =? length (samples_in file)) (λ n. inr (9, rw (e, sound_whole _ (wav_is file e).0, n))) (λ n. inl (e, got file pcm e (eqb-true _ _ n))))

abbrev told : Restored → ℕ
told r = r.frames.refusal

taken : (file pcm : List ℕ) → told (read_of file pcm) ≡ 0
    → (is_wav file ≡ true) × (read_of file pcm ≡ record { frames = record { refusal = 0; frames = frames_in (length (samples_in file)) }; pcm = samples_in file })
taken file pcm z = ⊎_elim (λ t. t) (λ r. let e = ap told r.1 in absurd (omega arith)) (outcome file pcm)

unread : (file pcm : List ℕ) (k : ℕ) → told (read_of file pcm) ≡ k → (k ≡ 0 → ⊥) → read_of file pcm ≡ record { frames = refused_by k; pcm = pcm }
unread file pcm k e h =
    ⊎_elim (λ t. absurd (h (sym e ∙ ap told t.1))) (λ r. r.1 ∙ ap (λ (n : ℕ). record { frames = refused_by n; pcm = pcm }) (sym (ap told r.1) ∙ e)) (outcome file pcm)

unwritten : (pcm file : List ℕ) → ((filed_of pcm file).refusal ≡ 0 → ⊥) → filed_of pcm file ≡ record { refusal = 10; file = file }
unwritten pcm file h =
    tested (is_sound (length pcm)) (unsound pcm file)
    (λ e. tested (length file =? header_size + length pcm) (λ n. no_room pcm file e (eqb-false _ _ n))
    (λ n. absurd (h (ap (λ (x : Filed). x.refusal) (wrote pcm file e (eqb-true _ _ n))))))

-- ---- what is written, and what is read

sound_of_lem : (frames size : ℕ) → frames ≤ 32000 → size ≡ frames * 4 → is_sound size ≡ true
sound_of_lem frames size few e =
    let m : size % 4 ≡ 0 = omega arith in
    let d : size / 4 ≤ 32000 = omega arith in
    rw (eq-eqb _ _ m, le-leb _ _ d)

pub reads_back : ReadsBack
reads_back frames few pcm file to lp lf lt =
    let s = sound_of_lem frames (length pcm) few lp in
    let w = wrote pcm file s (omega arith) in
    let b = samples_back pcm in
    let n : frames_in (length pcm) ≡ frames = omega arith in (
      ap (λ (x : Filed). x.refusal) w,
      ap (λ (x : Filed). read_of x.file to) w ∙ got (wav_of pcm) to (file_of pcm s) (lt ∙ sym lp ∙ sym (ap length b))
          ∙ (λ i. record { frames = record { refusal = 0; frames = frames_in (length (b i)) }; pcm = b i })
          ∙ ap (λ (k : ℕ). record { frames = record { refusal = 0; frames = k }; pcm = pcm }) n,
    )

pub writes_back : WritesBack
writes_back file pcm to z l =
    let r = taken file pcm z in
    let w = wav_is file r.0 in
    ap (λ (x : Restored). filed_of x.pcm to) r.1 ∙ wrote (samples_in file) to w.0 (l ∙ wav_size file r.0) ∙ ap (λ (f : List ℕ). record { refusal = 0; file = f }) (sym w.1)

pub refuses : Refuses
refuses = (unwritten, unread)
