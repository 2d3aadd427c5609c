-- By which number an entry refuses, and what a refused call leaves: an answer by tests in their order; and so a run, a part and a rework.
use Rattle.std.proofs.Common.{if◌then◌else◌}
use mathlib.Core.Bool.{Bool, true, false, not, ◌&&◌}
use mathlib.Core.List.{List, [], ◌∷◌}
use mathlib.Core.Logic.{◌≢◌}
use mathlib.Core.Path.{◌≡◌, refl, sym, ap, ◌∙◌}
use Prim.Native.Nat.{ℕ, zero, suc, ◌+◌, ◌*◌}
use lib.ListN.{length}
use native.Mathlib.Omega.{arith}
use borrow.Author.Tests.{eqb-true, eq-eqb, ne_eqb}
use Rattle.numbers.specs.Choice.{◌<?◌, ◌=?◌}
use Rattle.numbers.proofs.Choice.{tested}
use Rattle.dsp.specs.Fit.{fit}
use Rattle.dsp.specs.declared.registers.Dsp.{Dsp}
use Rattle.dsp.specs.declared.tick.Work.{Work}
use Rattle.chip_log.specs.Log.{read_at, decode}
use Rattle.chip_log.specs.Measure.{ticks_in, readings_in, unmeasured, total, measure_of}
use Rattle.chip_log.specs.declared.Record.{Record}
use Rattle.chip_log.specs.declared.Record.TheVariants.{Write, Ticks, Reading}
use Rattle.chip_log.specs.Log.{Next}
use Rattle.chip_log.specs.Log.{On, Off}
use Rattle.chip_log.specs.Measure.{Measured}
use Rattle.dsp.specs.Run.{unrun, run_measured, run_with}
use Rattle.sitting.specs.Parts.{Told, Parted, untold, unparted, stop_at, record_at, next_at, ticks_now, sounding, log_refusal, part_of}
use Rattle.rework.specs.Refusals.{◌when◌, first_of, ram_is_not_whole, is_unfit, is_too_long, fault_of}
use Rattle.rework.specs.Alike.{alike}
use Rattle.rework.specs.Members.{modes_of, quiet}
use Rattle.rework.specs.Rework.{set_of, only, Left, unreworked, refusal_of, rework_of}
use Rattle.rework.specs.Demands.{Exactly, of_room, of_run, stop_in, of_part, of_rework}
use Rattle.rework.proofs.Faults.{first_alone, first_two, measure_said}
use Rattle.rework.proofs.Passed.{passed}

-- ---- an answer by tests, one behind the other

-- as `Exactly` says of an answer x
pub record Answers {A : Type 0} (refusal : A → ℕ) (left : ℕ → A) (x : A) (conditions : List ℕ) : Type 0 where
  pub said : refusal x ≡ first_of conditions
  pub back : refusal x ≢ 0 → x ≡ left (refusal x)

pub exactly : {A : Type 0} (left : ℕ → A) (refusal : A → ℕ) {x : A} {conditions : List ℕ} → Answers refusal left x conditions → Exactly refusal x conditions left
exactly left refusal h = (h.said, h.back)

module _ {A : Type 0} {refusal : A → ℕ} {left : ℕ → A} where
  -- no condition applies
  taking : {x : A} {conditions : List ℕ} → refusal x ≡ 0 → first_of conditions ≡ 0 → Answers refusal left x conditions
  taking e f = record { said = e ∙ sym f; back = λ h. absurd (h e) }

  -- or is left
  pub answered : {x : A} → refusal x ≡ 0 → Answers refusal left x []
  unfolding first_of
  answered e = taking e refl

  -- the first that applies has this number
  refusing : (k : ℕ) {conditions : List ℕ} → refusal (left k) ≡ k → first_of conditions ≡ k → Answers refusal left (left k) conditions
  refusing k e f = record { said = e ∙ sym f; back = λ _. ap left (sym e) }

  -- other conditions, of which the same is the first
  pub restated : {x : A} {conditions others : List ℕ} → first_of others ≡ first_of conditions → Answers refusal left x conditions → Answers refusal left x others
  restated e h = record { said = h.said ∙ sym e; back = h.back }

  -- a number is the refusal, unless it is 0
  pub numbered : (k : ℕ) {x : A} {conditions : List ℕ} → refusal (left k) ≡ k → (k ≡ 0 → Answers refusal left x conditions)
      → Answers refusal left (if k =? 0 then x else left k) (k ∷ conditions)
  unfolding first_of
  numbered k {conditions = conditions} e h =
      tested (λ (a : A). Answers refusal left a (k ∷ conditions)) (k =? 0) (λ z. restated (rw z) (h (eqb-true k 0 z))) (λ z. refusing k e (rw z))

  -- a test refuses by a number, unless it holds
  pub guarded : (b : Bool) (k : ℕ) {x : A} {conditions : List ℕ} → (k =? 0) ≡ false → refusal (left k) ≡ k → Answers refusal left x conditions
      → Answers refusal left (if b then x else left k) ((k when not b) ∷ conditions)
  unfolding first_of
  guarded true k z e h = restated refl h
  guarded false k z e h = refusing k e (rw z)

-- ---- a log

total-refused : (rs : List Record) (stop t q : ℕ) → (total rs stop t q).refusal ≢ 0 → total rs stop t q ≡ unmeasured (total rs stop t q).refusal
unfolding total
total-refused [] stop t q = tested (λ (m : Measured). m.refusal ≢ 0 → m ≡ unmeasured m.refusal) (stop =? 0) (λ _ h. absurd (h refl)) (λ _ h. refl)
total-refused (r ∷ rs) stop t q =
    tested (λ (m : Measured). m.refusal ≢ 0 → m ≡ unmeasured m.refusal) (32000 <? t + ticks_in r) (λ _ h. refl)
    (λ _. total-refused rs stop (t + ticks_in r) (q + readings_in r))

pub measure-refused : (log : List ℕ) → (measure_of log).refusal ≢ 0 → measure_of log ≡ unmeasured (measure_of log).refusal
unfolding measure_of
measure-refused log =
    tested (λ (m : Measured). m.refusal ≢ 0 → m ≡ unmeasured m.refusal) (60000 <? length log) (λ _ h. refl)
    (λ _. total-refused (decode log).records (decode log).stop 0 0)

-- ---- a run

-- 10 where one of three lengths is another
room_said : (x y z : Bool) → first_of ((10 when not x) ∷ (10 when not y) ∷ (10 when not z) ∷ []) ≡ first_of ((10 when not (x && y && z)) ∷ [])
unfolding first_of
room_said false y z = refl
room_said true false z = refl
room_said true true z = refl

-- two conditions, by the number that they come to
two_said : (k l : ℕ) {n : ℕ} (rest : List ℕ) → n ≡ first_of (k ∷ l ∷ []) → first_of (k ∷ l ∷ rest) ≡ first_of (n ∷ rest)
two_said k l rest e = first_two k l rest ∙ ap (λ (n : ℕ). first_of (n ∷ rest)) (sym e)

log_said : (log rest : List ℕ) → first_of ((3 when is_too_long log) ∷ fault_of log ∷ rest) ≡ first_of ((measure_of log).refusal ∷ rest)
log_said log rest = two_said _ _ rest (measure_said log)

pub run_exactly : (w : Work) (d : Dsp) (ram log pcm sheet readings : List ℕ)
    → Exactly (λ a. a.refusal) (run_with w d ram log pcm sheet readings) (of_run d ram log pcm sheet readings) (λ k. unrun k d ram pcm sheet readings)
unfolding run_with run_measured
run_exactly w d ram log pcm sheet readings =
    let m = measure_of log in
    let x = length pcm =? m.ticks * 4 in
    let y = length sheet =? m.ticks * 36 in
    let z = length readings =? m.readings in
    exactly (λ k. unrun k d ram pcm sheet readings) (λ a. a.refusal)
    (guarded (length ram =? 0x10000) 1 refl refl (guarded (fit d) 2 refl refl (restated (log_said log _)
    (numbered m.refusal refl (λ _. restated (room_said x y z) (guarded (x && y && z) 10 refl refl (answered refl)))))))

room_left : (d : Dsp) (ram log room : List ℕ) → length ram ≡ 0x10000 → fit d ≡ true → (measure_of log).refusal ≡ 0
    → first_of ((1 when ram_is_not_whole ram) ∷ (2 when is_unfit d) ∷ (3 when is_too_long log) ∷ fault_of log ∷ room) ≡ first_of room
unfolding first_of
room_left d ram log room l f z = rw (eq-eqb (length ram) 0x10000 l, f) (log_said log room ∙ rw (eq-eqb (measure_of log).refusal 0 z))

-- where nothing but the room is amiss, an answer that follows a run's is refused as the run
pub ran_said : (w : Work) (d : Dsp) (ram log pcm sheet readings : List ℕ) (y : Left) → length ram ≡ 0x10000 → fit d ≡ true → (measure_of log).refusal ≡ 0
    → ((run_with w d ram log pcm sheet readings).refusal ≡ 0 → y.refusal ≡ 0)
    → (let o = run_with w d ram log pcm sheet readings in
    Answers (λ (a : Left). a.refusal) (λ k. unreworked k d pcm sheet readings) (if o.refusal =? 0 then y else unreworked o.refusal d o.pcm o.sheet o.readings) (of_room log pcm sheet readings))
ran_said w d ram log pcm sheet readings y l f z h =
    let o = run_with w d ram log pcm sheet readings in
    let room = of_room log pcm sheet readings in
    let x = run_exactly w d ram log pcm sheet readings in
    let r : o.refusal ≡ first_of room = x.0 ∙ room_left d ram log room l f z in
    tested (λ (a : Left). Answers (λ (b : Left). b.refusal) (λ k. unreworked k d pcm sheet readings) a room) (o.refusal =? 0)
    (λ e. taking (h (eqb-true _ _ e)) (sym r ∙ eqb-true _ _ e))
    (λ e. record { said = r; back = λ n. let g = x.1 n in λ i. unreworked o.refusal d (g i).pcm (g i).sheet (g i).readings })

-- ---- a part of a run

front_said : (at : ℕ) (log : List ℕ) → log_refusal at log ≡ first_of ((3 when is_too_long log) ∷ (if at =? 0 then fault_of log else 0) ∷ [])
unfolding log_refusal first_of
front_said at log =
    tested (λ (k : ℕ). k ≡ first_of ((3 when is_too_long log) ∷ (if at =? 0 then fault_of log else 0) ∷ [])) (at =? 0) (λ e. rw e (measure_said log))
    (λ e. rw e (sym (first_alone (3 when is_too_long log))))

-- at a record: refused by how the log stops there
next_exactly : (n : Next) (d : Dsp) (at left : ℕ) → left ≡ 0 → Exactly (λ t. t.refusal) (next_at n d at) (stop_in n ∷ []) (λ k. untold k d at left)
unfolding next_at stop_at record_at first_of
next_exactly (Off k) d at left z =
    tested (λ (t : Told). Exactly (λ u. u.refusal) t (k ∷ []) (λ j. untold j d at left)) (k =? 0)
    (λ e. (rw e, λ h. absurd (h refl))) (λ e. (rw e, λ h. ap (untold k d at) (sym z)))
next_exactly (On (Write r x) behind) d at left z = (refl, λ h. absurd (h refl))
next_exactly (On (Ticks n) behind) d at left z = (refl, λ h. absurd (h refl))
next_exactly (On (Reading r) behind) d at left z = (refl, λ h. absurd (h refl))

module _ (d : Dsp) (at left : ℕ) (ram log pcm : List ℕ) where
  abbrev back : ℕ → Parted
  back k = unparted k d at left ram pcm

  abbrev Parts : Parted → List ℕ → Type 0
  Parts = Answers (λ (a : Parted). a.told.refusal) back

  -- behind the log's own: what stands at the place, or the room for a tick
  abbrev here : List ℕ
  here = (if left =? 0 then stop_in (read_at log at) else 0) ∷ (10 when not (left =? 0) && (length pcm <? 4)) ∷ []

  place_said : Parts (if left =? 0 then record { told = next_at (read_at log at) d at; ram = ram; pcm = pcm } else
      if length pcm <? 4 then back 10 else sounding (ticks_now left (length pcm)) d at left ram pcm) here
  unfolding sounding first_of
  place_said =
      tested (λ (a : Parted). Parts a here) (left =? 0)
      (λ z.
      let n = next_exactly (read_at log at) d at left (eqb-true left 0 z) in
      record { said = n.0 ∙ rw z; back = λ h. let e = n.1 h in λ i. record { told = e i; ram = ram; pcm = pcm } })
      (λ z. tested (λ (a : Parted). Parts a here) (length pcm <? 4) (λ e. refusing 10 refl (rw (z, e))) (λ e. taking refl (rw (z, e))))

  pub part_exactly : Exactly (λ a. a.told.refusal) (part_of d at left ram log pcm) (of_part d at left ram log pcm) back
  unfolding part_of
  part_exactly =
      exactly back (λ a. a.told.refusal)
      (guarded (length ram =? 0x10000) 1 refl refl (guarded (fit d) 2 refl refl (restated (two_said _ _ _ (front_said at log))
      (numbered (log_refusal at log) refl (λ _. place_said)))))

-- ---- a rework

first_none : (rest : List ℕ) → first_of rest ≡ first_of (0 ∷ rest)
unfolding first_of
first_none rest = refl

-- a condition before others that come to n, or else to what is behind
when_said : (k : ℕ) (b : Bool) (n : ℕ) (conditions behind : List ℕ) → (k =? 0) ≡ false → first_of conditions ≡ first_of (n ∷ behind)
    → first_of ((k when b) ∷ conditions) ≡ first_of ((if b then k else n) ∷ behind)
unfolding first_of
when_said k true n conditions behind z e = rw z
when_said k false n conditions behind z e = e

number_said : (k n : ℕ) (conditions behind : List ℕ) → first_of conditions ≡ first_of (n ∷ behind)
    → first_of (k ∷ conditions) ≡ first_of ((if not (k =? 0) then k else n) ∷ behind)
unfolding first_of
number_said zero n conditions behind e = e
number_said (suc k) n conditions behind e = let z = ne_eqb (suc k) 0 (omega arith) in rw (z, z)

module _ (s : ℕ) (start end : Dsp) (ram log₁ log₂ pcm sheet readings : List ℕ) where
  -- what is refused before the run, else the room that is lent
  pub early_said : first_of (of_rework s start end ram log₁ log₂ pcm sheet readings) ≡ first_of (refusal_of s start end ram log₁ log₂ ∷ of_room log₂ pcm sheet readings)
  unfolding refusal_of
  early_said =
      when_said 1 (ram_is_not_whole ram) _ _ _ refl (when_said 2 (is_unfit start) _ _ _ refl (when_said 2 (is_unfit end) _ _ _ refl
      (log_said log₁ _ ∙ number_said (measure_of log₁).refusal _ _ _ (log_said log₂ _ ∙ number_said (measure_of log₂).refusal _ _ _
      (when_said 12 (not (alike s (decode log₁).records (decode log₂).records)) _ _ _ refl
      (when_said 11 (not (quiet (decode log₂).records (modes_of start))) _ _ _ refl (first_none _)))))))

  pub rework_exactly : Exactly (λ a. a.refusal) (rework_of s start end ram log₁ log₂ pcm sheet readings) (of_rework s start end ram log₁ log₂ pcm sheet readings)
      (λ k. unreworked k start pcm sheet readings)
  unfolding rework_of
  rework_exactly =
      exactly (λ k. unreworked k start pcm sheet readings) (λ a. a.refusal)
      (restated early_said (numbered (refusal_of s start end ram log₁ log₂) refl (λ z.
      let u = passed s start end ram log₁ log₂ z in
      ran_said (only (set_of s start log₂)) start ram log₂ pcm sheet readings _ u.whole u.fits u.second (λ _. refl))))
