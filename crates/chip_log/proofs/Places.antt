-- Places of a log: a record ends past where it began; and the bound on the number of records is never met.
use mathlib.Core.List.{List, [], ◌∷◌}
use mathlib.Core.Path.{◌≡◌, refl, sym, ap, subst, ◌∙◌}
use Prim.Native.Nat.{ℕ, zero, suc, ◌+◌, ◌*◌, ◌≤◌, ◌<◌}
use native.Mathlib.Omega.{arith}
use native.Mathlib.Numerals.{add-one}
use lib.ListN.{length, get_or}
use borrow.Author.Tests.{ltb-false, le-leb}
use Rattle.numbers.specs.Choice.{◌≤?◌, ◌<?◌, ◌=?◌}
use Rattle.numbers.proofs.Choice.{tested}
use Rattle.chip_log.specs.declared.Record.{Record}
use Rattle.chip_log.specs.declared.Record.TheVariants.{Write, Ticks, Reading}
use Rattle.chip_log.specs.Log.{Next}
use Rattle.chip_log.specs.Log.{On, Off}
use Rattle.chip_log.specs.Log.{byte_in, write_record, ticks_record, reading_record, by_mark, read_at, Moves, Decoded, before, decode_from, records_from}

-- ---- a record ends past where it began

module _ (log : List ℕ) (at : ℕ) where
  abbrev Ok : Next → Type 0
  Ok n = Moves at (length log) n

  write_moves : Ok (write_record log at)
  unfolding write_record
  write_moves =
      tested Ok (length log <? at + 4) (λ _. tt) (λ l. tested Ok (0x7F <? byte_in log (at + 2)) (λ _. tt) (λ k.
      let a = ltb-false (length log) (at + 4) l in let b = ltb-false 0x7F (byte_in log (at + 2)) k in (omega arith, omega (arith, a), omega (arith, b))))

  ticks-moves : Ok (ticks_record log at)
  unfolding ticks_record
  ticks-moves =
      tested Ok (length log <? at + 4) (λ _. tt) (λ l. tested Ok (byte_in log (at + 2) + 0x100 * byte_in log (at + 3) =? 0) (λ _. tt) (λ k.
      let a = ltb-false (length log) (at + 4) l in (omega arith, omega (arith, a), tt)))

  reading_moves : Ok (reading_record log at)
  unfolding reading_record
  reading_moves =
      tested Ok (length log <? at + 3) (λ _. tt) (λ l. tested Ok (0x7F <? byte_in log (at + 2)) (λ _. tt) (λ k.
      let a = ltb-false (length log) (at + 3) l in let b = ltb-false 0x7F (byte_in log (at + 2)) k in (omega arith, omega (arith, a), omega (arith, b))))

  mark_moves : (mark : ℕ) → Ok (by_mark log at mark)
  unfolding by_mark
  mark_moves mark =
      tested Ok (mark =? 0x5257) (λ _. write_moves) (λ _. tested Ok (mark =? 0x544B) (λ _. ticks-moves) (λ _.
      tested Ok (mark =? 0x5141) (λ _. reading_moves) (λ _. tested Ok (mark =? 0x4E44) (λ _. tested Ok (length log =? at + 2) (λ _. tt) (λ _. tt)) (λ _. tt))))

  pub moves : Ok (read_at log at)
  unfolding read_at
  moves =
      tested Ok (length log ≤? at) (λ _. tt) (λ _. tested Ok (length log <? at + 2) (λ _. tt) (λ _. mark_moves (byte_in log (at + 1) + 0x100 * byte_in log at)))

-- a written value is a byte of the log
abbrev pub ByteValue : Next → Type 0
ByteValue (On (Write r v) behind) = v < 256
ByteValue (On (Ticks k) behind) = Unit {0}
ByteValue (On (Reading r) behind) = Unit {0}
ByteValue (Off k) = Unit {0}

pub byte_value : (log : List ℕ) (at : ℕ) → ((i : ℕ) → get_or log i 0 < 256) → ByteValue (read_at log at)
unfolding read_at by_mark write_record ticks_record reading_record
byte_value log at h =
    let size = length log in
    let mark = byte_in log (at + 1) + 0x100 * byte_in log at in
    tested ByteValue (size ≤? at) (λ _. tt) (λ _. tested ByteValue (size <? at + 2) (λ _. tt) (λ _.
    tested ByteValue (mark =? 0x5257)
    (λ _. tested ByteValue (size <? at + 4) (λ _. tt) (λ _. tested ByteValue (0x7F <? byte_in log (at + 2)) (λ _. tt) (λ _. h (at + 3))))
    (λ _. tested ByteValue (mark =? 0x544B)
    (λ _. tested ByteValue (size <? at + 4) (λ _. tt) (λ _. tested ByteValue (byte_in log (at + 2) + 0x100 * byte_in log (at + 3) =? 0) (λ _. tt) (λ _. tt)))
    (λ _. tested ByteValue (mark =? 0x5141)
    (λ _. tested ByteValue (size <? at + 3) (λ _. tt) (λ _. tested ByteValue (0x7F <? byte_in log (at + 2)) (λ _. tt) (λ _. tt)))
    (λ _. tested ByteValue (mark =? 0x4E44) (λ _. tested ByteValue (size =? at + 2) (λ _. tt) (λ _. tt)) (λ _. tt))))))

-- past the end nothing stands
past_end : (log : List ℕ) (at : ℕ) → length log ≤ at → read_at log at ≡ Off 8
unfolding read_at
past_end log at h = rw (le-leb _ _ h)

-- ---- the bound

same-before : (n : Next) (f g : ℕ → Decoded) → ((r : Record) (behind : ℕ) → n ≡ On r behind → f behind ≡ g behind) → before f n ≡ before g n
same-before (Off k) f g h = refl
same-before (On r behind) f g h = let e = h r behind refl in λ i. record { records = r ∷ (e i).records; stop = (e i).stop }

-- with room for the records that can be, one more changes nothing
pub decode_more : (f : ℕ) (log : List ℕ) (at : ℕ) → length log < f + at → decode_from (suc f) log at ≡ decode_from f log at
unfolding decode_from
decode_more zero log at h = ap (before (decode_from 0 log)) (past_end log at (omega (arith, h)))
decode_more (suc f) log at h =
    same-before (read_at log at) (decode_from (suc f) log) (decode_from f log)
    (λ r behind e. let m = subst (Moves at (length log)) e (moves log at) in decode_more f log behind (omega (arith, h, m.0)))

-- ---- the records from a place on
-- opened at what stands there
pub opened_at : (log : List ℕ) (at behind : ℕ) (r : Record) → read_at log at ≡ On r behind → records_from log at ≡ r ∷ records_from log behind
unfolding decode_from
opened_at log at behind r e =
    let m = subst (Moves at (length log)) e (moves log at) in
    ap (λ (k : ℕ). (decode_from k log at).records) (add-one (length log))
    ∙ ap (λ (n : Next). (before (decode_from (length log) log) n).records) e
    ∙ ap (λ (l : List Record). r ∷ l) (sym (ap (λ (x : _). x.records) (ap (λ (k : ℕ). decode_from k log behind) (add-one (length log)) ∙ decode_more (length log) log behind (omega (arith, m.0)))))

pub closed_at : (log : List ℕ) (at k : ℕ) → read_at log at ≡ Off k → records_from log at ≡ []
unfolding decode_from
closed_at log at k e =
    ap (λ (j : ℕ). (decode_from j log at).records) (add-one (length log)) ∙ ap (λ (n : Next). (before (decode_from (length log) log) n).records) e
