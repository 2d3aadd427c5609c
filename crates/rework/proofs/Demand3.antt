-- Demand 3: a rework is a rerun. Both runs agree outside the set with the run of what their logs have in common (`kept`); so the first
-- run's sheet agrees there with the second's, and the rework over it gives the second run (`right`).
use mathlib.Core.Bool.{true, ◌&&◌}
use mathlib.Core.List.{List, [], ◌∷◌, flatten}
use mathlib.Core.Path.{◌≡◌, refl, sym, ap, ◌∙◌}
use Prim.Native.Nat.{ℕ, ◌*◌}
use lib.ListN.{length, drop}
use borrow.Author.Tests.{eq-eqb}
use Rattle.dsp.specs.Machine.{Parts, apart, together}
use Rattle.dsp.specs.Fit.{fit}
use Rattle.dsp.specs.Sheet.{lane_at}
use Rattle.dsp.specs.Tick.{everything}
use Rattle.dsp.specs.Ticks.{bench_of}
use Rattle.dsp.specs.declared.registers.Dsp.{Dsp}
use Rattle.chip_log.specs.Log.{decode}
use Rattle.chip_log.specs.Measure.{measure_of}
use Rattle.chip_log.specs.declared.Record.{Record}
use Rattle.chip_log.specs.declared.Record.TheVariants.{Write, Ticks, Reading}
use Rattle.dsp.specs.Play.{Run, play_all, starting}
use Rattle.dsp.specs.Run.{ran, run_of}
use Rattle.rework.specs.Alike.{without, same_record, same_records, alike}
use Rattle.rework.specs.Members.{modes_of, quiet, members}
use Rattle.rework.specs.Differ.{SameBut}
use Rattle.rework.specs.Rework.{end_parts, refusal_of, set_of, only, reworked, rework_of}
use Rattle.rework.specs.Demands.{Bytes, Demand3}
use Rattle.rework.proofs.Tape.{beats, modes_in, Tape, tape, Rows, Kept, Sim, Right}
use Rattle.rework.proofs.Right.{Sized36, rows_36, right}
use Rattle.rework.proofs.Kept.{kept}
use Rattle.rework.proofs.Ends.{end-parts}
use Rattle.rework.proofs.Taped.{taped}
use Rattle.rework.proofs.Sheets.{rows_length, over_rows, others, rows_both, rows_count, puts, measured_sums, same-both}
use Rattle.rework.proofs.Beats.{keep_beats, members-without, quiet-without, joins_beats, quiet_beats, small_beats}
use Rattle.rework.proofs.Taken.{Fitting, unrefused, run_is}
use Rattle.rework.proofs.Keeps.{Whole, whole_start, whole_tape, whole_fit, whole_sized}

-- ---- logs that are alike

self_record : (r : Record) → same_record r r ≡ true
unfolding same_record
self_record (Write r x) = rw (eq-eqb r r refl, eq-eqb x x refl)
self_record (Ticks n) = eq-eqb n n refl
self_record (Reading r) = eq-eqb r r refl

self_records : (rs : List Record) → same_records rs rs ≡ true
unfolding same_records
self_records [] = refl
self_records (r ∷ rs) = λ i. self_record r i && self_records rs i

-- ---- both sides of one start

pub same_self : (a : ℕ) (p : Parts) → SameBut a p p
same_self a p =
    record {
      bytes = record { own = λ j k l m o. refl; endx = λ j l o. refl; others = λ n l m o. refl };
      voices = λ j l o. refl;
      delays = λ j l o. refl;
      taps = refl;
      left = refl;
      right = refl;
      globals = refl;
    }

sim_self : (a : ℕ) (p : Parts) → length p.voices ≡ 8 → length p.delays ≡ 8 → Sim a p p
sim_self a p lv ld =
    record {
      bytes = refl;
      count = lv;
      waits = ld;
      voices = λ j l o. refl;
      lefts = λ j l. refl;
      rights = λ j l. refl;
      delays = λ j l o. refl;
      globals = refl;
    }

-- ---- the two runs, as tapes

pub record Runs (a : ℕ) (x y : Tape) : Type 0 where
  pub parts : SameBut a x.parts y.parts
  pub rows : Rows a x.rows y.rows

module _ (s : ℕ) (d₁ d₂ : Dsp) (ram log₁ log₂ : List ℕ) (same : SameBut s (apart d₁) (apart d₂))
    (logs : without s (decode log₁).records ≡ without s (decode log₂).records) where
  abbrev rs₁ : List Record
  rs₁ = (decode log₁).records

  abbrev rs₂ : List Record
  rs₂ = (decode log₂).records

  -- the fields that decide are the same
  modes_same : modes_of d₁ ≡ modes_of d₂
  modes_same = ap modes_in same.globals

  set_same : members rs₁ (modes_of d₁) s ≡ set_of s d₂ log₂
  set_same =
      sym (members-without s rs₁ (modes_of d₁) s) ∙ (λ i. members (logs i) (modes_same i) s) ∙ members-without s rs₂ (modes_of d₂) s

  pub quiet_same : quiet rs₁ (modes_of d₁) ≡ true → quiet rs₂ (modes_of d₂) ≡ true
  quiet_same q = sym (quiet-without s rs₂ (modes_of d₂)) ∙ (λ i. quiet (sym logs i) (sym modes_same i)) ∙ quiet-without s rs₁ (modes_of d₁) ∙ q

  -- outside the set a run agrees with the run of what both logs have in common
  agrees : (d : Dsp) (log o : List ℕ) → Bytes log → Whole (apart d) ram → Whole (apart d₂) ram → SameBut s (apart d) (apart d₂) → quiet (decode log).records (modes_of d) ≡ true
      → members (decode log).records (modes_of d) s ≡ set_of s d₂ log₂ → without s (decode log).records ≡ without s rs₂
      → Kept (set_of s d₂ log₂) ram (tape everything (beats (decode log).records) o (apart d) ram) (tape everything (beats (without s rs₂)) [] (apart d₂) ram)
  agrees d log o b h h₂ e q m w =
      let rs = (decode log).records in
      let k = kept s (beats rs) s o [] (apart d) (apart d₂) ram h.room (small_beats log b) h.good h₂.good (λ j l t. t) e (quiet_beats rs (modes_of d) q) in
      rw (joins_beats rs (modes_of d) s ∙ m, keep_beats s rs ∙ ap beats w) at k

  -- and so both with one another
  pub runs : (o₁ o₂ : List ℕ) → Bytes log₁ → Bytes log₂ → Whole (apart d₁) ram → Whole (apart d₂) ram → quiet rs₁ (modes_of d₁) ≡ true
      → Runs (set_of s d₂ log₂) (tape everything (beats rs₁) o₁ (apart d₁) ram) (tape everything (beats rs₂) o₂ (apart d₂) ram)
  runs o₁ o₂ b₁ b₂ h₁ h₂ q =
      let g₁ = agrees d₁ log₁ o₁ b₁ h₁ h₂ same q set_same logs in
      let g₂ = agrees d₂ log₂ o₂ b₂ h₂ h₂ (same_self s (apart d₂)) (quiet_same q) refl refl in
      record { parts = same-both (set_of s d₂ log₂) _ _ _ g₁.parts g₂.parts; rows = rows_both (set_of s d₂ log₂) g₁.rows g₂.rows }

-- ---- the refusals

-- none, where all that is tested holds
unrefused_rework : (s : ℕ) (start end : Dsp) (ram log₁ log₂ : List ℕ) → length ram ≡ 0x10000 → fit start ≡ true → fit end ≡ true
    → (measure_of log₁).refusal ≡ 0 → (measure_of log₂).refusal ≡ 0 → without s (decode log₁).records ≡ without s (decode log₂).records
    → quiet (decode log₂).records (modes_of start) ≡ true → refusal_of s start end ram log₁ log₂ ≡ 0
unfolding refusal_of alike
unrefused_rework s start end ram log₁ log₂ r f g m₁ m₂ w q =
    rw (eq-eqb (length ram) 0x10000 r, f, g, eq-eqb (measure_of log₁).refusal 0 m₁, eq-eqb (measure_of log₂).refusal 0 m₂, w, self_records (without s (decode log₂).records), q)

-- the rows of a run fill the sheet that its log needs
filled : (s : ℕ) (log : List ℕ) (xs : List (List ℕ)) (old : List ℕ) (p : Parts) (ram : List ℕ) → (measure_of log).refusal ≡ 0 → Sized36 xs
    → Rows s xs (tape everything (beats (decode log).records) old p ram).rows → length (flatten xs) ≡ (measure_of log).ticks * 36
filled s log xs old p ram z w r =
    rows_length xs w ∙ ap (λ (c : ℕ). c * 36) (rows_count s r ∙ (puts everything (decode log).records old p ram).rows ∙ sym (measured_sums log z).0)

-- ---- the theorem

pub demand3 : Demand3
unfolding rework_of
demand3 s d₁ d₂ ram log₁ log₂ pcm₁ sheet₁ readings₁ pcm₂ sheet₂ readings₂ pcm readings v₁ v₂ b₁ b₂ same logs q z₁ z₂ lp lr =
    let a = set_of s d₂ log₂ in
    let rs₁ = (decode log₁).records in
    let rs₂ = (decode log₂).records in
    let m₂ = measure_of log₂ in
    let first = run_of d₁ ram log₁ pcm₁ sheet₁ readings₁ in
    let second = run_of d₂ ram log₂ pcm₂ sheet₂ readings₂ in
    let f₁ = unrefused everything d₁ ram log₁ pcm₁ sheet₁ readings₁ z₁ in
    let f₂ = unrefused everything d₂ ram log₂ pcm₂ sheet₂ readings₂ z₂ in
    let i₁ = run_is everything d₁ ram log₁ pcm₁ sheet₁ readings₁ f₁ in
    let i₂ = run_is everything d₂ ram log₂ pcm₂ sheet₂ readings₂ f₂ in
    let t₁ = tape everything (beats rs₁) sheet₁ (apart d₁) ram in
    let t₂ = tape everything (beats rs₂) sheet₂ (apart d₂) ram in
    let p₁ = taped everything rs₁ (bench_of d₁ ram sheet₁) [] in
    let p₂ = taped everything rs₂ (bench_of d₂ ram sheet₂) [] in
    let h₁ = whole_start d₁ ram v₁ f₁.fits f₁.ram_whole in
    let w₁ = whole_tape everything (beats rs₁) sheet₁ (apart d₁) ram (small_beats log₁ b₁) h₁ in
    let h₂ = whole_start d₂ ram v₂ f₂.fits f₂.ram_whole in
    let w₂ = whole_tape everything (beats rs₂) sheet₂ (apart d₂) ram (small_beats log₂ b₂) h₂ in
    let q₂ = quiet_same s d₁ d₂ ram log₁ log₂ same logs q in
    let r = runs s d₁ d₂ ram log₁ log₂ same logs sheet₁ sheet₂ b₁ b₂ h₁ h₂ q in
    let end = together t₁.parts in
    let old = flatten t₁.rows in
    let s₁ = rows_36 (beats rs₁) sheet₁ (apart d₁) ram in
    let s₂ = rows_36 (beats rs₂) sheet₂ (apart d₂) ram in
    let n₀ = unrefused_rework s d₂ end ram log₁ log₂ f₂.ram_whole f₂.fits (whole_fit w₁) f₁.taken f₂.taken logs q₂ in
    let f₃ : Fitting d₂ ram log₂ pcm old readings =
    record {
      ram_whole = f₂.ram_whole;
      fits = f₂.fits;
      taken = f₂.taken;
      sounds = lp ∙ f₂.sounds;
      shown = filled a log₂ t₁.rows sheet₂ (apart d₂) ram f₂.taken s₁ r.rows;
      told = lr ∙ f₂.told;
    } in
    let i₃ = run_is (only a) d₂ ram log₂ pcm old readings f₃ in
    let t₃ = tape (only a) (beats rs₂) old (apart d₂) ram in
    let p₃ = taped (only a) rs₂ (bench_of d₂ ram old) [] in
    let g : Right a t₃ t₂ =
    right a (beats rs₂) sheet₂ old (apart d₂) (apart d₂) ram f₂.ram_whole (small_beats log₂ b₂) (sim_self a (apart d₂) v₂.voices v₂.delays) h₂.good
    (quiet_beats rs₂ (modes_of d₂) q₂) (over_rows a s₁ r.rows) in
    let en = end-parts a t₃.parts t₁.parts t₂.parts (whole_sized w₁) (whole_sized w₂) w₁.endx w₂.endx g.parts r.parts in
    let sheet₁-is : first.sheet ≡ old = (λ i. (i₁ i).sheet) ∙ p₁.sheet in
    let end_is : first.dsp ≡ end = (λ i. (i₁ i).dsp) ∙ ap together p₁.parts in
    let sheet₂-is : second.sheet ≡ flatten t₂.rows = (λ i. (i₂ i).sheet) ∙ p₂.sheet in
    let played : Run = play_all (only a) rs₂ (starting d₂ ram old) in
    let x-is : rework_of s d₂ first.dsp ram log₁ log₂ pcm first.sheet readings ≡ reworked a d₂ end (ran m₂ played) =
    (λ i. rework_of s d₂ (end_is i) ram log₁ log₂ pcm (sheet₁-is i) readings) ∙ rw (eq-eqb (refusal_of s d₂ end ram log₁ log₂) 0 n₀) (ap (reworked a d₂ end) i₃) in
    let sheet-is = (λ i. (x-is i).sheet) ∙ p₃.sheet ∙ ap flatten g.rows in
    record {
      refusal = (λ i. (x-is i).refusal);
      sheet = sheet-is ∙ sym sheet₂-is;
      readings = (λ i. (x-is i).readings) ∙ p₃.readings ∙ g.readings ∙ sym ((λ i. (i₂ i).readings) ∙ p₂.readings);
      samples = (λ i. (x-is i).pcm) ∙ p₃.pcm ∙ ap flatten g.frames ∙ sym ((λ i. (i₂ i).pcm) ∙ p₂.pcm);
      end = (λ i. (x-is i).dsp) ∙ (λ i. together (end_parts a (p₃.parts i) t₁.parts)) ∙ ap together en ∙ sym ((λ i. (i₂ i).dsp) ∙ ap together p₂.parts);
      members = (λ i. (x-is i).members);
      count = (λ i. (x-is i).count);
      others = λ t j l o. (λ i. lane_at j (drop (t * 36) (sheet-is i))) ∙ others a s₁ s₂ r.rows t j l o ∙ (λ i. lane_at j (drop (t * 36) (sym sheet₁-is i)));
    }
