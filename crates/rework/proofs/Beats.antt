-- The records of a log and their beats: what stays, the set, quiet ticks, registers and values.
use Rattle.std.proofs.Common.{if◌then◌else◌}
use mathlib.Core.Bool.{Bool, true, false, not, ◌||◌}
use mathlib.Core.List.{List, [], ◌∷◌}
use mathlib.Core.Path.{◌≡◌, refl, sym, ap, ◌∙◌}
use Prim.Native.Nat.{ℕ, zero, suc, ◌+◌, ◌/◌, ◌%◌, ◌<◌}
use native.Mathlib.Omega.{arith}
use lib.ListN.{length, get_or}
use borrow.Author.Tests.{ne_eqb, not-false}
use Rattle.numbers.specs.Choice.{◌=?◌}
use Rattle.numbers.proofs.Choice.{tested}
use Rattle.numbers.specs.Bits.{bit}
use Rattle.dsp.proofs.Tests.{lt, ◌and◌}
use Rattle.chip_log.specs.Log.{read_at, Moves, Decoded, before, decode_from, decode}
use Rattle.chip_log.specs.declared.Record.{Record}
use Rattle.chip_log.specs.declared.Record.TheVariants.{Write, Ticks, Reading}
use Rattle.chip_log.specs.Log.{Next}
use Rattle.chip_log.specs.Log.{On, Off}
use Rattle.chip_log.proofs.Places.{moves, ByteValue, byte_value}
use Rattle.rework.specs.Alike.{named, stays, without}
use Rattle.rework.specs.Members.{Fields, modes_after, quiet, joined_by, joined_over, members}
use Rattle.rework.proofs.Bits.{itself}
use Rattle.rework.proofs.Tape.{Beat, put, ticks_then, beats, Small, keep, Quiet, joins}

-- ---- a named voice's own write changes neither field

own_modes : (s r x : ℕ) (m : Fields) → stays s (Write r x) ≡ false → modes_after r x m ≡ m
own_modes s r x m e =
    let l = ((lt (r % 16) 8 and itself (bit s (r / 16))).sound (not-false (named s r) e)).0 in
    rw (ne_eqb r 0x6C (λ z. absurd (omega arith)), ne_eqb r 0x2D (λ z. absurd (omega arith)))

-- ---- what stays

keep_ticks : (s n : ℕ) (bs : List Beat) → keep s (ticks_then n bs) ≡ ticks_then n (keep s bs)
unfolding ticks_then keep
keep_ticks s zero bs = refl
keep_ticks s (suc n) bs = rw (keep_ticks s n bs)

keep_by : (s r x : ℕ) (b : Bool) (bs : List Beat) (rs : List Record) → keep s bs ≡ beats rs
    → (if b then keep s bs else put r x ∷ keep s bs) ≡ beats (if not b then Write r x ∷ rs else rs)
unfolding beats
keep_by s r x true bs rs e = e
keep_by s r x false bs rs e = rw e

pub keep_beats : (s : ℕ) (rs : List Record) → keep s (beats rs) ≡ beats (without s rs)
unfolding keep beats without
keep_beats s [] = refl
keep_beats s (Write r x ∷ rs) = keep_by s r x (named s r) (beats rs) (without s rs) (keep_beats s rs)
keep_beats s (Ticks n ∷ rs) = keep_ticks s n (beats rs) ∙ ap (ticks_then n) (keep_beats s rs)
keep_beats s (Reading r ∷ rs) = rw (keep_beats s rs)

-- neither the set nor the quiet sees what is left out
pub members-without : (s : ℕ) (rs : List Record) (m : Fields) (a : ℕ) → members (without s rs) m a ≡ members rs m a
unfolding members without
members-without s [] m a = refl
members-without s (Write r x ∷ rs) m a =
    tested (λ (l : List Record). members l m a ≡ members rs (modes_after r x m) a) (stays s (Write r x)) (λ _. members-without s rs (modes_after r x m) a)
    (λ e. rw (own_modes s r x m e) (members-without s rs m a))
members-without s (Ticks n ∷ rs) m a = members-without s rs m (joined_over n m.pmon a)
members-without s (Reading r ∷ rs) m a = members-without s rs m a

pub quiet-without : (s : ℕ) (rs : List Record) (m : Fields) → quiet (without s rs) m ≡ quiet rs m
unfolding quiet without
quiet-without s [] m = refl
quiet-without s (Write r x ∷ rs) m =
    tested (λ (l : List Record). quiet l m ≡ quiet rs (modes_after r x m)) (stays s (Write r x)) (λ _. quiet-without s rs (modes_after r x m))
    (λ e. rw (own_modes s r x m e) (quiet-without s rs m))
quiet-without s (Ticks n ∷ rs) m = rw (quiet-without s rs m)
quiet-without s (Reading r ∷ rs) m = quiet-without s rs m

-- ---- the set, and quiet ticks

over_first : (n pmon a : ℕ) → joined_over n pmon (joined_by pmon a) ≡ joined_over (suc n) pmon a
unfolding joined_over
over_first zero pmon a = refl
over_first (suc n) pmon a = ap (joined_by pmon) (over_first n pmon a)

joins_ticks : (n : ℕ) (bs : List Beat) (m : Fields) (a : ℕ) → joins (ticks_then n bs) m a ≡ joins bs m (joined_over n m.pmon a)
unfolding ticks_then joins joined_over
joins_ticks zero bs m a = refl
joins_ticks (suc n) bs m a = joins_ticks n bs m (joined_by m.pmon a) ∙ ap (joins bs m) (over_first n m.pmon a)

pub joins_beats : (rs : List Record) (m : Fields) (a : ℕ) → joins (beats rs) m a ≡ members rs m a
unfolding joins beats members
joins_beats [] m a = refl
joins_beats (Write r x ∷ rs) m a = joins_beats rs (modes_after r x m) a
joins_beats (Ticks n ∷ rs) m a = joins_ticks n (beats rs) m a ∙ joins_beats rs m (joined_over n m.pmon a)
joins_beats (Reading r ∷ rs) m a = joins_beats rs m a

quiet_more : (n : ℕ) (bs : List Beat) (m : Fields) → bit m.flg 5 ≡ true → Quiet bs m → Quiet (ticks_then n bs) m
unfolding ticks_then Quiet
quiet_more zero bs m e q = q
quiet_more (suc n) bs m e q = (e, quiet_more n bs m e q)

quiet-ticks : (n : ℕ) (bs : List Beat) (m : Fields) → ((n =? 0) || bit m.flg 5) ≡ true → Quiet bs m → Quiet (ticks_then n bs) m
unfolding ticks_then
quiet-ticks zero bs m e q = q
quiet-ticks (suc n) bs m e q = quiet_more (suc n) bs m (sym (ap (λ (b : Bool). b || bit m.flg 5) (ne_eqb (suc n) 0 (omega arith))) ∙ e) q

pub quiet_beats : (rs : List Record) (m : Fields) → quiet rs m ≡ true → Quiet (beats rs) m
unfolding quiet Quiet beats
quiet_beats [] m e = tt
quiet_beats (Write r x ∷ rs) m e = quiet_beats rs (modes_after r x m) e
quiet_beats (Ticks n ∷ rs) m e =
    let f = (itself ((n =? 0) || bit m.flg 5) and itself (quiet rs m)).sound e in quiet-ticks n (beats rs) m f.0 (quiet_beats rs m f.1)
quiet_beats (Reading r ∷ rs) m e = quiet_beats rs m e

-- ---- registers and values

small_ticks : (n : ℕ) (bs : List Beat) → Small bs → Small (ticks_then n bs)
unfolding ticks_then Small
small_ticks zero bs h = h
small_ticks (suc n) bs h = small_ticks n bs h

small_before : (n : Next) (at size : ℕ) (go : ℕ → Decoded) → Moves at size n → ByteValue n → ((behind : ℕ) → Small (beats (go behind).records))
    → Small (beats (before go n).records)
unfolding Small beats
small_before (On (Write r x) behind) at size go m b h = (m.2, b, h behind)
small_before (On (Ticks k) behind) at size go m b h = small_ticks k (beats (go behind).records) (h behind)
small_before (On (Reading r) behind) at size go m b h = h behind
small_before (Off k) at size go m b h = tt

small_from : (f : ℕ) (log : List ℕ) → ((i : ℕ) → get_or log i 0 < 256) → (at : ℕ) → Small (beats (decode_from f log at).records)
unfolding decode_from beats Small
small_from zero log h at = tt
small_from (suc f) log h at = small_before (read_at log at) at (length log) (decode_from f log) (moves log at) (byte_value log at h) (small_from f log h)

pub small_beats : (log : List ℕ) → ((i : ℕ) → get_or log i 0 < 256) → Small (beats (decode log).records)
unfolding decode
small_beats log h = small_from (length log + 1) log h 0
