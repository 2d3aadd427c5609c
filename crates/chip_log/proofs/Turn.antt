-- A turn of a loop over the log's records, on plain values.
use Rattle.std.proofs.Common.{if◌then◌else◌}
use mathlib.Core.Path.{◌≡◌, refl, sym, ap, subst, ◌∙◌}
use mathlib.Core.List.{List, [], ◌∷◌}
use mathlib.Core.Bool.{Bool, true, false}
use Prim.Native.Nat.{ℕ, zero, suc, ◌+◌, ◌≤◌, ◌<◌}
use native.Mathlib.Omega.{arith}
use lib.ListN.{length}
use borrow.Author.Tests.{lt-ltb, le-ltb, ltb-false, ne_eqb}
use Rattle.numbers.specs.Choice.{◌<?◌}
use Rattle.refusal.specs.Refusal.{number}
use Rattle.refusal.specs.declared.Refusal.{Refusal}
use Rattle.refusal.proofs.Numbers.{positive}
use Rattle.chip_log.specs.declared.Record.{Record}
use Rattle.chip_log.specs.declared.Record.TheVariants.{Write, Ticks, Reading}
use Rattle.chip_log.specs.Log.{Next}
use Rattle.chip_log.specs.Log.{On, Off}
use Rattle.chip_log.specs.Measure.{Measured}
use Rattle.chip_log.specs.Log.{read_at, Moves, Known, Decoded, before, decode_from, decode}
use Rattle.chip_log.specs.Measure.{ticks_in, readings_in, unmeasured, ended_at, total, total_of, measure_of}

-- the place is reached with t ticks and q readings: what is left, of fewer than f records, gives the whole log's totals
pub record Here (log : List ℕ) (at t q : ℕ) : Type 0 where
  pub within : at ≤ length log
  pub few : t ≤ 32000
  pub less : q ≤ at
  pub f : ℕ
  pub room : length log < f + at
  pub rest : total_of (decode_from f log at) t q ≡ total_of (decode log) 0 0

pub here_first : (log : List ℕ) → Here log 0 0 0
unfolding decode
here_first log = record { within = omega arith; few = omega arith; less = omega arith; f = length log + 1; room = omega arith; rest = refl }

-- the place behind a record
pub moved : {at size behind : ℕ} {r : Record} {n : Next} → n ≡ On r behind → Moves at size n → (at < behind) × (behind ≤ size)
moved {at} {size} {behind} {r} e m = let v : Moves at size (On r behind) = subst (Moves at size) e m in (v.0, v.1)

-- the records from a place within the log, opened at the first
opened : (log : List ℕ) (f at : ℕ) → length log < f + at → at ≤ length log
    → (g : ℕ) × (f ≡ g + 1) × (decode_from f log at ≡ before (decode_from g log) (read_at log at))
unfolding decode_from
opened log zero at h l = absurd (omega arith)
opened log (suc f) at h l = (f, omega arith, refl)

module _ {log : List ℕ} {at t q : ℕ} {n : Next} (here : Here log at t q) (is : n ≡ read_at log at) where
  -- what stands here, then the rest
  first : (g : ℕ) × (here.f ≡ g + 1) × (total_of (before (decode_from g log) n) t q ≡ total_of (decode log) 0 0)
  first =
      let o = opened log here.f at here.room here.within in
      (o.0, o.1, ap (λ (m : Next). total_of (before (decode_from o.0 log) m) t q) is ∙ sym (ap (λ (d : Decoded). total_of d t q) o.2) ∙ here.rest)

  -- no record
  pub stop : {k : ℕ} → n ≡ Off k → ended_at k t q ≡ total_of (decode log) 0 0
  unfolding total
  stop e = sym (ap (λ (m : Next). total_of (before (decode_from first.0 log) m) t q) e) ∙ first.2

  -- a record, by a test of its ticks
  abbrev by : Record → ℕ → Bool → Measured
  by r behind b = if b then unmeasured 7 else total_of (decode_from first.0 log behind) (t + ticks_in r) (q + readings_in r)

  seen : {r : Record} {behind : ℕ} → n ≡ On r behind → by r behind (32000 <? t + ticks_in r) ≡ total_of (decode log) 0 0
  unfolding total
  seen e = sym (ap (λ (m : Next). total_of (before (decode_from first.0 log) m) t q) e) ∙ first.2

  -- a record that has too many
  pub over : {r : Record} {behind : ℕ} → n ≡ On r behind → 32000 < t + ticks_in r → unmeasured 7 ≡ total_of (decode log) 0 0
  over {r} {behind} e h = sym (ap (by r behind) (lt-ltb 32000 _ h)) ∙ seen e

  -- a record that has not, by its numbers as the loop has them
  pub turn : {r : Record} {behind x y : ℕ} → n ≡ On r behind → Moves at (length log) n → x ≡ ticks_in r → y ≡ readings_in r
      → y < 2 → t + x ≤ 32000 → (at < behind) × Here log behind (t + x) (q + y)
  turn {r} {behind} {x} {y} e m ex ey s h =
      let v : (at < behind) × (behind ≤ length log) = moved e m in
      let k : here.f ≡ first.0 + 1 = first.1 in (
        v.0,
        record {
          within = v.1;
          few = h;
          less = omega arith;
          f = first.0;
          room = omega arith;
          rest = rw (ex, ey) (sym (ap (by r behind) (le-ltb 32000 (t + ticks_in r) (omega (arith, ex)))) ∙ seen e);
        },
      )

-- ---- over a log that is refused by nothing, T ticks and Q readings in all

abbrev pub good : ℕ → ℕ → Measured
good T Q = record { refusal = 0; ticks = T; readings = Q }

-- a refusal is told by its number, and no ticks and readings are
pub refused_at : (r : Refusal) (t q : ℕ) → ended_at (number r) t q ≡ unmeasured (number r)
refused_at r t q = rw (ne_eqb (number r) 0 (let h = positive r in omega arith))

-- a refusal has another number
refused_not : {A : Type 0} (k T Q : ℕ) → unmeasured (suc k) ≡ good T Q → A
refused_not k T Q e = let z : suc k ≡ 0 = ap (λ (m : Measured). m.refusal) e in absurd (omega arith)

-- how the records end
pub record Ends (stop t q T Q : ℕ) : Type 0 where
  pub stops : stop ≡ 0
  pub ticks : t ≡ T
  pub readings : q ≡ Q

ends : (stop t q T Q : ℕ) → ended_at stop t q ≡ good T Q → Ends stop t q T Q
ends zero t q T Q e = record { stops = refl; ticks = ap (λ (m : Measured). m.ticks) e; readings = ap (λ (m : Measured). m.readings) e }
ends (suc k) t q T Q e = refused_not k T Q (sym (ap (λ (b : Bool). if b then good t q else unmeasured (suc k)) (ne_eqb (suc k) 0 (omega arith))) ∙ e)

-- a record leaves the ticks at 32,000 or less
pub record Counts (t x : ℕ) (rest T : Measured) : Type 0 where
  pub few : t + x ≤ 32000
  pub rest_is : rest ≡ T

counts : (b : Bool) (t x T Q : ℕ) (rest : Measured) → (32000 <? t + x) ≡ b → (if b then unmeasured 7 else rest) ≡ good T Q → Counts t x rest (good T Q)
counts true t x T Q rest eb e = refused_not 6 T Q e
counts false t x T Q rest eb e = record { few = ltb-false 32000 (t + x) eb; rest_is = e }

-- no total shrinks
pub most : (rs : List Record) (stop t q T Q : ℕ) → total rs stop t q ≡ good T Q → (t ≤ T) × (q ≤ Q)
unfolding total
most [] stop t q T Q e = let n = ends stop t q T Q e in (omega (arith, n.ticks), omega (arith, n.readings))
most (r ∷ rs) stop t q T Q e =
    let c = counts (32000 <? t + ticks_in r) t (ticks_in r) T Q (total rs stop (t + ticks_in r) (q + readings_in r)) refl e in
    let m = most rs stop (t + ticks_in r) (q + readings_in r) T Q c.rest_is in
    (omega (arith, m.0), omega (arith, m.1))

-- and no log has more than 32,000 ticks
pub few_in_all : (rs : List Record) (stop t q T Q : ℕ) → t ≤ 32000 → total rs stop t q ≡ good T Q → T ≤ 32000
unfolding total
few_in_all [] stop t q T Q l e = let n = ends stop t q T Q e in omega (arith, n.ticks)
few_in_all (r ∷ rs) stop t q T Q l e =
    let c = counts (32000 <? t + ticks_in r) t (ticks_in r) T Q (total rs stop (t + ticks_in r) (q + readings_in r)) refl e in
    few_in_all rs stop (t + ticks_in r) (q + readings_in r) T Q c.few c.rest_is

few_read : (r : Record) → readings_in r ≤ 1
few_read (Write r v) = omega arith
few_read (Ticks k) = omega arith
few_read (Reading r) = omega arith

-- the place behind a record, with its ticks and readings counted
pub record Turned (log : List ℕ) (at t q f : ℕ) (r : Record) (behind : ℕ) : Type 0 where
  pub on : at < behind
  pub here : Here log behind (t + ticks_in r) (q + readings_in r)
  pub opens : (decode_from f log at).records ≡ r ∷ (decode_from here.f log behind).records
  pub known : Known r

module _ {log : List ℕ} {at t q : ℕ} {n : Next} (here : Here log at t q) (is : n ≡ read_at log at) {T Q : ℕ} (g : total_of (decode log) 0 0 ≡ good T Q) where
  opened_here : (m : ℕ) × (here.f ≡ m + 1) × (decode_from here.f log at ≡ before (decode_from m log) n)
  opened_here =
      let o = opened log here.f at here.room here.within in
      (o.0, o.1, o.2 ∙ sym (ap (before (decode_from o.0 log)) is))

  pub turned : {r : Record} {behind : ℕ} → n ≡ On r behind → Moves at (length log) n → Turned log at t q here.f r behind
  unfolding total
  turned {r} {behind} e m =
      let o = opened_here in
      let d : decode_from here.f log at ≡ before (decode_from o.0 log) (On r behind) = o.2 ∙ ap (before (decode_from o.0 log)) e in
      let v : Moves at (length log) (On r behind) = subst (Moves at (length log)) e m in
      let rest = total_of (decode_from o.0 log behind) (t + ticks_in r) (q + readings_in r) in
      let c = counts (32000 <? t + ticks_in r) t (ticks_in r) T Q rest refl (sym (ap (λ (x : Decoded). total_of x t q) d) ∙ here.rest ∙ g) in
      let k : here.f ≡ o.0 + 1 = o.1 in
      let few : readings_in r ≤ 1 = few_read r in
      record {
        on = v.0;
        here = record { within = v.1; few = c.few; less = omega (arith, here.less, v.0, few); f = o.0; room = omega (arith, k, here.room, v.0); rest = c.rest_is ∙ sym g };
        opens = ap (λ (x : Decoded). x.records) d;
        known = v.2;
      }

  pub ended : {k : ℕ} → n ≡ Off k → Ends k t q T Q × ((decode_from here.f log at).records ≡ [])
  unfolding total
  ended {k} e =
      let o = opened_here in
      let d : decode_from here.f log at ≡ before (decode_from o.0 log) (Off k) = o.2 ∙ ap (before (decode_from o.0 log)) e in
      (ends k t q T Q (sym (ap (λ (x : Decoded). total_of x t q) d) ∙ here.rest ∙ g), ap (λ (x : Decoded). x.records) d)

-- a log that `measure_of` refuses by nothing
pub record Taken (log : List ℕ) (m : Measured) : Type 0 where
  pub short : length log ≤ 60000
  pub all : total_of (decode log) 0 0 ≡ good m.ticks m.readings
  pub few : m.ticks ≤ 32000

taken_if : (b : Bool) (log : List ℕ) (m : Measured) → (60000 <? length log) ≡ b → m ≡ (if b then unmeasured 3 else total_of (decode log) 0 0) → m.refusal ≡ 0 → Taken log m
taken_if true log m eb e z = let y : m.refusal ≡ 3 = ap (λ (x : Measured). x.refusal) e in absurd (omega arith)
taken_if false log m eb e z =
    let g = sym e ∙ ap (λ (k : ℕ). record { refusal = k; ticks = m.ticks; readings = m.readings }) z in
    record { short = ltb-false 60000 (length log) eb; all = g; few = few_in_all (decode log).records (decode log).stop 0 0 m.ticks m.readings (omega arith) g }

pub taken : (log : List ℕ) (m : Measured) → m ≡ measure_of log → m.refusal ≡ 0 → Taken log m
unfolding measure_of
taken log m e z = taken_if (60000 <? length log) log m refl e z
