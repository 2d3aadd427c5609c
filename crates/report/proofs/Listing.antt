-- The registers that a log reads, listed from its front on.
use Rattle.std.proofs.Common.{◌≡◌, ℕ, ◌+◌, ◌<◌, ◌≤◌, List, ◌∷◌, length, set, sym, refl, ap, ◌∙◌, arith}
use Rattle.chip_log.specs.Log.{read_at, Moves, decode, records_from}
use Rattle.chip_log.specs.declared.Record.{Record}
use Rattle.chip_log.specs.declared.Record.TheVariants.{Write, Ticks, Reading}
use Rattle.chip_log.specs.Log.{Next}
use Rattle.chip_log.specs.Log.{On, Off}
use Rattle.chip_log.proofs.Turn.{moved}
use Rattle.chip_log.proofs.Places.{opened_at, closed_at}
use Rattle.report.specs.Runs.{registers_of, registers_in}
use Rattle.report.proofs.Filling.{Filling, unfilled, Filled, ended as filled, one_put, renamed}

-- a record that is no reading
pub others : (x : Record) → ((r : ℕ) → x ≡ Reading r → ⊥) → (rs : List Record) → registers_of (x ∷ rs) ≡ registers_of rs
unfolding registers_of
others (Write r v) k rs = refl
others (Ticks n) k rs = refl
others (Reading r) k rs = absurd (k r refl)

-- the place is reached with so many listed, and what is left of the log gives the others
pub record Listed (log old new : List ℕ) (put at : ℕ) : Type 0 where
  pub within : at ≤ length log
  pub filling : Filling (registers_in log) old new put (registers_of (records_from log at))

pub first : (log old : List ℕ) → Listed log old old 0 0
unfolding decode
first log old = record { within = omega arith; filling = unfilled _ old }

module _ {log old new : List ℕ} {put at : ℕ} {n : Next} (h : Listed log old new put at) (is : n ≡ read_at log at) where
  -- no record is left
  pub ended : {k : ℕ} → n ≡ Off k → Filled (registers_in log) old new put
  unfolding registers_of
  ended {k} e = filled h.filling (ap registers_of (closed_at log at k (sym is ∙ e)))

  -- a reading
  pub listed : {x : Record} {r behind : ℕ} → n ≡ On x behind → x ≡ Reading r → Moves at (length log) n → put < length old → Listed log old (set new put r) (put + 1) behind
  unfolding registers_of
  listed {x} {r} {behind} e ex m l =
      record {
        within = (moved e m).1;
        filling = one_put h.filling r (ap registers_of (opened_at log at behind (Reading r) (sym is ∙ e ∙ ap (λ (y : Record). On y behind) ex))) l;
      }

  -- any other record
  pub passed : {x : Record} {behind : ℕ} → n ≡ On x behind → Moves at (length log) n
      → ((rs : List Record) → registers_of (x ∷ rs) ≡ registers_of rs) → Listed log old new put behind
  passed {x} {behind} e m o =
      record { within = (moved e m).1; filling = renamed h.filling (ap registers_of (opened_at log at behind x (sym is ∙ e)) ∙ o (records_from log behind)) }
