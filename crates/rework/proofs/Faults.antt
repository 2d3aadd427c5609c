-- A log's refusal by document 01's table: what `measure_of` finds is the first fault, and 3 before any.
use Rattle.std.proofs.Common.{if◌then◌else◌}
use mathlib.Core.Bool.{Bool, false}
use mathlib.Core.List.{List, [], ◌∷◌}
use mathlib.Core.Path.{◌≡◌, refl, sym, ap, ◌∙◌}
use Prim.Native.Nat.{ℕ, zero, suc, ◌+◌, ◌≤◌}
use native.Mathlib.Omega.{arith}
use borrow.Author.Tests.{eqb-true, ne_eqb, le-ltb, ltb-false}
use lib.ListN.{length}
use Rattle.numbers.specs.Choice.{◌≤?◌, ◌<?◌, ◌=?◌}
use Rattle.numbers.proofs.Choice.{tested}
use Rattle.chip_log.specs.Log.{byte_in, write_record, ticks_record, reading_record, by_mark, read_at, before, decode_from, decode}
use Rattle.chip_log.specs.Measure.{ticks_in, readings_in, unmeasured, total, total_of, measure_of}
use Rattle.chip_log.specs.declared.Record.{Record}
use Rattle.chip_log.specs.declared.Record.TheVariants.{Write, Ticks, Reading}
use Rattle.chip_log.specs.Log.{Next}
use Rattle.chip_log.specs.Log.{On, Off}
use Rattle.chip_log.specs.Measure.{Measured}
use Rattle.rework.specs.Refusals.{◌when◌, first_of, is_too_long, RW, TK, QA, ND, size_of, mark_at, count_at, fault_by, ticks_by, fault_from, fault_of}

-- ---- the first that applies

pub first_alone : (k : ℕ) → first_of (k ∷ []) ≡ k
unfolding first_of
first_alone zero = refl
first_alone (suc k) = rw (ne_eqb (suc k) 0 (omega arith))

-- two of them stand for their first
pub first_two : (k l : ℕ) (rest : List ℕ) → first_of (k ∷ l ∷ rest) ≡ first_of (first_of (k ∷ l ∷ []) ∷ rest)
unfolding first_of
first_two zero l rest = ap (λ (n : ℕ). first_of (n ∷ rest)) (sym (first_alone l))
first_two (suc k) l rest = let e = ne_eqb (suc k) 0 (omega arith) in rw (e, e)

-- ---- at a place

-- by a mark that stands there
module _ (f : ℕ) (log : List ℕ) (at t q : ℕ) (few : t ≤ 32000) where
  -- the refusal of what stands here and behind
  abbrev told : Next → ℕ
  told n = (total_of (before (decode_from f log) n) t q).refusal

  -- and what the table says of a mark
  abbrev said : ℕ → ℕ
  said mark = first_of (fault_by log at t mark ∷ (if mark =? ND then 0 else fault_from f log (at + size_of mark) (t + ticks_by log at mark)) ∷ [])

  abbrev Behind : Type 0
  Behind = (at' t' q' : ℕ) → t' ≤ 32000 → (total_of (decode_from f log at') t' q').refusal ≡ fault_from f log at' t'

  module _ (go : Behind) where
    -- a record with which the ticks are few
    on_told : (r : Record) (behind : ℕ) → (32000 <? t + ticks_in r) ≡ false → told (On r behind) ≡ first_of (fault_from f log behind (t + ticks_in r) ∷ [])
    unfolding total
    on_told r behind e =
        let rest = total_of (decode_from f log behind) (t + ticks_in r) (q + readings_in r) in
        ap (λ (b : Bool). (if b then unmeasured 7 else rest).refusal) e ∙ go behind (t + ticks_in r) (q + readings_in r) (ltb-false 32000 (t + ticks_in r) e)
        ∙ sym (first_alone (fault_from f log behind (t + ticks_in r)))

    few_told : (r : Record) (behind : ℕ) → ticks_in r ≡ 0 → told (On r behind) ≡ first_of (fault_from f log behind (t + ticks_in r) ∷ [])
    few_told r behind z = on_told r behind (le-ltb 32000 (t + ticks_in r) (omega arith))

    module _ (on : (length log ≤? at) ≡ false) (two : (length log <? at + 2) ≡ false) where
      write_said : told (write_record log at) ≡ said RW
      unfolding write_record first_of total
      write_said =
          tested (λ (n : Next). told n ≡ said RW) (length log <? at + 4) (λ e. rw (on, two, e)) (λ e.
          tested (λ (n : Next). told n ≡ said RW) (0x7F <? byte_in log (at + 2)) (λ d. rw (on, two, e, d)) (λ d.
          few_told (Write (byte_in log (at + 2)) (byte_in log (at + 3))) (at + 4) refl ∙ rw (on, two, e, d)))

      reading_said : told (reading_record log at) ≡ said QA
      unfolding reading_record first_of total
      reading_said =
          tested (λ (n : Next). told n ≡ said QA) (length log <? at + 3) (λ e. rw (on, two, e)) (λ e.
          tested (λ (n : Next). told n ≡ said QA) (0x7F <? byte_in log (at + 2)) (λ d. rw (on, two, e, d)) (λ d.
          few_told (Reading (byte_in log (at + 2))) (at + 3) refl ∙ rw (on, two, e, d)))

      ticks_said : told (ticks_record log at) ≡ said TK
      unfolding ticks_record first_of total
      ticks_said =
          let n = count_at log at in
          tested (λ (x : Next). told x ≡ said TK) (length log <? at + 4) (λ e. rw (on, two, e)) (λ e.
          tested (λ (x : Next). told x ≡ said TK) (n =? 0) (λ d. rw (on, two, e, d)) (λ d.
          tested (λ (m : Measured). m.refusal ≡ said TK) (32000 <? t + n) (λ c. rw (on, two, e, d, c))
          (λ c. sym (ap (λ (b : Bool). (if b then unmeasured 7 else total_of (decode_from f log (at + 4)) (t + n) (q + 0)).refusal) c) ∙ on_told (Ticks n) (at + 4) c ∙ rw (on, two, e, d, c))))

      end_said : told (if length log =? at + 2 then Off 0 else Off 9) ≡ said ND
      unfolding first_of total
      end_said = tested (λ (n : Next). told n ≡ said ND) (length log =? at + 2) (λ e. rw (on, two, e)) (λ e. rw (on, two, e))

      -- by the mark
      mark_said : (mark : ℕ) → told (by_mark log at mark) ≡ said mark
      unfolding by_mark first_of total
      mark_said mark =
          let P : Next → Type 0 = (λ n. told n ≡ said mark) in
          tested P (mark =? RW) (λ e. rw (eqb-true mark RW e) write_said) (λ a.
          tested P (mark =? TK) (λ e. rw (eqb-true mark TK e) ticks_said) (λ b.
          tested P (mark =? QA) (λ e. rw (eqb-true mark QA e) reading_said) (λ c.
          tested P (mark =? ND) (λ e. rw (eqb-true mark ND e) end_said) (λ d. rw (on, two, a, b, c, d)))))

    place_said : told (read_at log at) ≡ said (mark_at log at)
    unfolding read_at first_of total
    place_said =
        let P : Next → Type 0 = (λ n. told n ≡ said (mark_at log at)) in
        tested P (length log ≤? at) (λ e. rw e) (λ a. tested P (length log <? at + 2) (λ e. rw (a, e)) (λ b. mark_said a b (mark_at log at)))

-- ---- the whole log

from_said : (f : ℕ) (log : List ℕ) (at t q : ℕ) → t ≤ 32000 → (total_of (decode_from f log at) t q).refusal ≡ fault_from f log at t
unfolding decode_from fault_from total
from_said zero log at t q h = refl
from_said (suc f) log at t q h = place_said f log at t q h (from_said f log)

-- a log's refusal is 3, or else its first fault
pub measure_said : (log : List ℕ) → (measure_of log).refusal ≡ first_of ((3 when is_too_long log) ∷ fault_of log ∷ [])
unfolding measure_of decode first_of
measure_said log =
    tested (λ (m : Measured). m.refusal ≡ first_of ((3 when is_too_long log) ∷ fault_of log ∷ [])) (60000 <? length log) (λ e. rw e)
    (λ e. from_said (length log + 1) log 0 0 0 (omega arith) ∙ sym (first_alone (fault_of log)) ∙ rw e)
