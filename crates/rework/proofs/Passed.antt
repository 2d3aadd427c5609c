-- A rework that is refused by nothing before its run: what it was given.
use mathlib.Core.Bool.{true, not, false≢true}
use mathlib.Core.List.{List, [], ◌∷◌}
use mathlib.Core.Path.{◌≡◌, refl, ap}
use Prim.Native.Nat.{ℕ}
use native.Mathlib.Omega.{arith}
use lib.ListN.{length}
use borrow.Author.Tests.{eqb-true, eqb-false, not-true, not-false}
use Rattle.numbers.specs.Choice.{◌=?◌}
use Rattle.numbers.proofs.Choice.{tested}
use Rattle.dsp.specs.Fit.{fit}
use Rattle.dsp.specs.declared.registers.Dsp.{Dsp}
use Rattle.dsp.proofs.Tests.{eq, ◌and◌}
use Rattle.chip_log.specs.Log.{decode}
use Rattle.chip_log.specs.Measure.{measure_of}
use Rattle.chip_log.specs.declared.Record.{Record}
use Rattle.chip_log.specs.declared.Record.TheVariants.{Write, Ticks, Reading}
use Rattle.rework.specs.Alike.{without, same_record, same_records, alike}
use Rattle.rework.specs.Members.{modes_of, quiet}
use Rattle.rework.specs.Rework.{refusal_of}
use Rattle.rework.proofs.Bits.{itself}

-- ---- the test of two logs means that they are the same

same_record_lem : (r q : Record) → same_record r q ≡ true → r ≡ q
unfolding same_record
same_record_lem (Write r x) (Write q y) e = let f = (eq r q and eq x y).sound e in λ i. Write (f.0 i) (f.1 i)
same_record_lem (Write r x) (Ticks m) e = absurd (false≢true e)
same_record_lem (Write r x) (Reading q) e = absurd (false≢true e)
same_record_lem (Ticks n) (Write q y) e = absurd (false≢true e)
same_record_lem (Ticks n) (Ticks m) e = ap Ticks (eqb-true n m e)
same_record_lem (Ticks n) (Reading q) e = absurd (false≢true e)
same_record_lem (Reading r) (Write q y) e = absurd (false≢true e)
same_record_lem (Reading r) (Ticks m) e = absurd (false≢true e)
same_record_lem (Reading r) (Reading q) e = ap Reading (eqb-true r q e)

same-records : (rs qs : List Record) → same_records rs qs ≡ true → rs ≡ qs
unfolding same_records
same-records [] [] e = refl
same-records [] (q ∷ qs) e = absurd (false≢true e)
same-records (r ∷ rs) [] e = absurd (false≢true e)
same-records (r ∷ rs) (q ∷ qs) e = let f = (itself (same_record r q) and itself (same_records rs qs)).sound e in λ i. same_record_lem r q f.0 i ∷ same-records rs qs f.1 i

-- ---- what a call that is refused by nothing but 10 was given

pub record Unrefused (s : ℕ) (start end : Dsp) (ram log₁ log₂ : List ℕ) : Type 0 where
  pub whole : length ram ≡ 0x10000
  pub fits : fit start ≡ true
  pub ends : fit end ≡ true
  pub first : (measure_of log₁).refusal ≡ 0
  pub second : (measure_of log₂).refusal ≡ 0
  pub logs : without s (decode log₁).records ≡ without s (decode log₂).records
  pub still : quiet (decode log₂).records (modes_of start) ≡ true

pub passed : (s : ℕ) (start end : Dsp) (ram log₁ log₂ : List ℕ) → refusal_of s start end ram log₁ log₂ ≡ 0 → Unrefused s start end ram log₁ log₂
unfolding refusal_of alike
passed s start end ram log₁ log₂ =
    let P : ℕ → Type 0 = (λ k. k ≡ 0 → Unrefused s start end ram log₁ log₂) in
    let m = measure_of log₁ in
    let n = measure_of log₂ in
    tested P (not (length ram =? 0x10000)) (λ _ z. absurd (omega arith)) (λ r. tested P (not (fit start)) (λ _ z. absurd (omega arith)) (λ f.
    tested P (not (fit end)) (λ _ z. absurd (omega arith)) (λ g. tested P (not (m.refusal =? 0)) (λ a z. absurd (eqb-false m.refusal 0 (not-true _ a) z)) (λ a.
    tested P (not (n.refusal =? 0)) (λ b z. absurd (eqb-false n.refusal 0 (not-true _ b) z)) (λ b.
    tested P (not (same_records (without s (decode log₁).records) (without s (decode log₂).records))) (λ _ z. absurd (omega arith)) (λ c.
    tested P (not (quiet (decode log₂).records (modes_of start))) (λ _ z. absurd (omega arith)) (λ d _.
    record { whole = eqb-true _ _ (not-false _ r); fits = not-false _ f; ends = not-false _ g; first = eqb-true _ _ (not-false _ a); second = eqb-true _ _ (not-false _ b); logs = same-records _ _ (not-false _ c); still = not-false _ d })))))))
