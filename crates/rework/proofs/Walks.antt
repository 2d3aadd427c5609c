-- A walk over the log's records: the fields, whether echo writing is off, and the set, from place to place.
use mathlib.Core.Bool.{Bool, ◌&&◌, and-true, and_assoc}
use mathlib.Core.List.{List}
use mathlib.Core.Logic.{◌≢◌}
use mathlib.Core.Path.{◌≡◌, refl, sym, ap, ◌∙◌}
use Prim.Native.Nat.{ℕ, zero, suc, ◌<◌}
use native.Mathlib.Omega.{arith}
use Rattle.chip_log.specs.Log.{read_at, records_from}
use Rattle.chip_log.specs.declared.Record.{Record}
use Rattle.chip_log.specs.Log.{Next}
use Rattle.chip_log.specs.Log.{On, Off}
use Rattle.chip_log.proofs.Places.{opened_at, closed_at}
use Rattle.rework.specs.Members.{Fields, modes_by, quiet_in, quiet, joined_by, joined_over, joined_in, members}
use Rattle.rework.proofs.Bits.{joined_twice}

-- no tick changes PMON, so that ticks join what the first of them does
pub over_some : (n pmon a : ℕ) → a < 256 → n ≢ 0 → joined_over n pmon a ≡ joined_by pmon a
unfolding joined_over
over_some zero pmon a l h = absurd (h refl)
over_some (suc zero) pmon a l h = refl
over_some (suc (suc n)) pmon a l h = ap (joined_by pmon) (over_some (suc n) pmon a l (λ e. absurd (omega arith))) ∙ joined_twice pmon a l

module _ (log : List ℕ) (at : ℕ) {n : Next} (is : n ≡ read_at log at) (m : Fields) where
  pub quiet_on : {r : Record} {behind : ℕ} (q : Bool) → n ≡ On r behind → (q && quiet (records_from log at) m) ≡ ((q && quiet_in r m) && quiet (records_from log behind) (modes_by r m))
  unfolding quiet
  quiet_on {r} {behind} q e = rw (opened_at log at behind r (sym is ∙ e)) (sym (and_assoc q (quiet_in r m) (quiet (records_from log behind) (modes_by r m))))

  pub quiet_end : {k : ℕ} (q : Bool) → n ≡ Off k → (q && quiet (records_from log at) m) ≡ q
  unfolding quiet
  quiet_end {k} q e = rw (closed_at log at k (sym is ∙ e)) (and-true q)

  pub members_on : {r : Record} {behind : ℕ} (a : ℕ) → n ≡ On r behind → members (records_from log at) m a ≡ members (records_from log behind) (modes_by r m) (joined_in r m a)
  unfolding members
  members_on {r} {behind} a e = rw (opened_at log at behind r (sym is ∙ e))

  pub members_end : {k : ℕ} (a : ℕ) → n ≡ Off k → members (records_from log at) m a ≡ a
  unfolding members
  members_end {k} a e = rw (closed_at log at k (sym is ∙ e))
