-- A sheet as its rows: how long it is, where a row of it stands, and what two sheets have in common outside a set.
use mathlib.Core.List.{List, [], ◌∷◌, ◌++◌, flatten}
use mathlib.Core.Path.{◌≡◌, refl, sym, ap, ◌∙◌}
use Prim.Native.Nat.{ℕ, zero, suc, ◌+◌, ◌*◌, ◌<◌}
use native.Mathlib.Nat.{zero-add}
use native.Mathlib.Omega.{arith}
use lib.ListN.{drop, length, length-append}
use lib.Seq.{drop_at, drop-append-add}
use borrow.Author.Tests.{eqb-false}
use Rattle.numbers.specs.Choice.{◌<?◌, ◌=?◌}
use Rattle.numbers.proofs.Choice.{tested}
use Rattle.dsp.specs.Machine.{Parts}
use Rattle.dsp.specs.Registers.{write_parts}
use Rattle.dsp.specs.Sheet.{pair_bytes, lane_at}
use Rattle.dsp.specs.Tick.{tick_of}
use Rattle.dsp.specs.declared.tick.Work.{Work}
use Rattle.dsp.proofs.Batches.{lane_part}
use Rattle.chip_log.specs.Log.{decode}
use Rattle.chip_log.specs.Measure.{ticks_in, readings_in, total, measure_of}
use Rattle.chip_log.specs.Measure.{Measured}
use Rattle.chip_log.specs.declared.Record.{Record}
use Rattle.chip_log.specs.declared.Record.TheVariants.{Write, Ticks, Reading}
use Rattle.chip_log.proofs.Turn.{good, taken}
use Rattle.rework.specs.Differ.{Outside, SameBut}
use Rattle.rework.proofs.Tape.{Beat, ticks_then, beats, Tape, tape, Rows, none, more, Over, over, upon}
use Rattle.rework.proofs.Right.{Sized36}

-- ---- rows one behind the other

pub rows_length : (xs : List (List ℕ)) → Sized36 xs → length (flatten xs) ≡ length xs * 36
unfolding Sized36 flatten
rows_length [] h = refl
rows_length (x ∷ xs) h = let e = rows_length xs h.1 in length-append x (flatten xs) ∙ omega (arith, e, h.0)

-- a row at the front has the sheet's lanes
front_lane : (j : ℕ) (x rest : List ℕ) → length x ≡ 36 → j < 9 → lane_at j (x ++ rest) ≡ lane_at j x
front_lane j x rest h l = lane_part j x rest (omega arith)

-- past a row
next_row : (t : ℕ) (x rest : List ℕ) → length x ≡ 36 → drop (suc t * 36) (x ++ rest) ≡ drop (t * 36) rest
next_row t x rest h =
    let e : suc t * 36 ≡ length x + t * 36 = omega arith in
    ap (λ (n : ℕ). drop n (x ++ rest)) e ∙ drop-append-add x rest (t * 36)

-- ---- two sheets that agree outside a set

pub over_rows : (a : ℕ) {xs ys : List (List ℕ)} → Sized36 xs → Rows a xs ys → Over a (flatten xs) ys
unfolding Sized36 flatten
over_rows a h none = over
over_rows a h (more {x = x} {y = y} {xs = xs} {ys = ys} s r) =
    upon {rs = ys} (λ j l o. front_lane j x (flatten xs) h.0 l ∙ s j l o) (rw (drop_at x (flatten xs) 36 h.0) (over_rows a h.1 r))

-- row t of both
pub others : (a : ℕ) {xs ys : List (List ℕ)} → Sized36 xs → Sized36 ys → Rows a xs ys → (t j : ℕ) → j < 9 → (j < 8 → Outside a j)
    → lane_at j (drop (t * 36) (flatten ys)) ≡ lane_at j (drop (t * 36) (flatten xs))
unfolding Sized36 flatten
others a h k none t j l o = refl
others a h k (more {x = x} {y = y} {xs = xs} {ys = ys} s r) zero j l o = front_lane j y (flatten ys) k.0 l ∙ sym (s j l o) ∙ sym (front_lane j x (flatten xs) h.0 l)
others a h k (more {x = x} {y = y} {xs = xs} {ys = ys} s r) (suc t) j l o =
    ap (lane_at j) (next_row t y (flatten ys) k.0) ∙ others a h.1 k.1 r t j l o ∙ sym (ap (lane_at j) (next_row t x (flatten xs) h.0))

-- rows that agree with the same rows agree
pub rows_both : (a : ℕ) {xs ys zs : List (List ℕ)} → Rows a xs zs → Rows a ys zs → Rows a xs ys
rows_both a none none = none
rows_both a (more s r) (more u v) = more (λ j l o. s j l o ∙ sym (u j l o)) (rows_both a r v)

pub rows_count : (a : ℕ) {xs ys : List (List ℕ)} → Rows a xs ys → length xs ≡ length ys
rows_count a none = refl
rows_count a (more s r) = ap suc (rows_count a r)

-- ---- as many rows as the records have ticks: what each record counts for, summed

unfoldable pub sum_in : (Record → ℕ) → List Record → ℕ
sum_in f [] = 0
sum_in f (r ∷ rs) = f r + sum_in f rs

-- n rows, as many samples of four bytes, and q readings
pub record Puts (n q : ℕ) (t : Tape) : Type 0 where
  pub rows : length t.rows ≡ n
  pub pcm : length (flatten t.frames) ≡ n * 4
  pub readings : length t.readings ≡ q

puts_as : {n m q r : ℕ} {t : Tape} → Puts n q t → n ≡ m → q ≡ r → Puts m r t
puts_as h e f = record { rows = h.rows ∙ e; pcm = h.pcm ∙ ap (λ (k : ℕ). k * 4) e; readings = h.readings ∙ f }

ticks_more : (w : Work) (n : ℕ) (bs : List Beat) (k q : ℕ) → ((old : List ℕ) (p : Parts) (ram : List ℕ) → Puts k q (tape w bs old p ram))
    → (old : List ℕ) (p : Parts) (ram : List ℕ) → Puts (n + k) q (tape w (ticks_then n bs) old p ram)
unfolding ticks_then tape flatten tick_of pair_bytes
ticks_more w zero bs k q h old p ram = rw (zero-add k) (h old p ram)
ticks_more w (suc n) bs k q h old p ram =
    let t = tick_of w old p ram in
    let e = ticks_more w n bs k q h (drop 36 old) t.parts t.ram in
    record { rows = omega arith; pcm = omega arith; readings = e.readings }

pub puts : (w : Work) (rs : List Record) (old : List ℕ) (p : Parts) (ram : List ℕ) → Puts (sum_in ticks_in rs) (sum_in readings_in rs) (tape w (beats rs) old p ram)
unfolding beats tape sum_in flatten
puts w [] old p ram = record { rows = refl; pcm = refl; readings = refl }
puts w (Write i v ∷ rs) old p ram = puts_as (puts w rs old (write_parts i v p) ram) (omega arith) (omega arith)
puts w (Ticks n ∷ rs) old p ram = puts_as (ticks_more w n (beats rs) (sum_in ticks_in rs) (sum_in readings_in rs) (puts w rs) old p ram) refl (omega arith)
puts w (Reading r ∷ rs) old p ram =
    let e = puts w rs old p ram in
    record { rows = omega arith; pcm = omega arith; readings = omega arith }

-- the ticks and readings of a log that is refused by nothing
pub total-sums : (rs : List Record) (stop t q T Q : ℕ) → total rs stop t q ≡ good T Q → (T ≡ t + sum_in ticks_in rs) × (Q ≡ q + sum_in readings_in rs)
unfolding total sum_in
total-sums [] stop t q T Q =
    tested (λ (m : Measured). m ≡ good T Q → (T ≡ t + 0) × (Q ≡ q + 0)) (stop =? 0)
    (λ _ e. let z : t ≡ T = ap (λ (m : Measured). m.ticks) e in let y : q ≡ Q = ap (λ (m : Measured). m.readings) e in (omega arith, omega arith))
    (λ f e. absurd (eqb-false stop 0 f (ap (λ (m : Measured). m.refusal) e)))
total-sums (r ∷ rs) stop t q T Q =
    tested (λ (m : Measured). m ≡ good T Q → (T ≡ t + (ticks_in r + sum_in ticks_in rs)) × (Q ≡ q + (readings_in r + sum_in readings_in rs))) (32000 <? t + ticks_in r)
    (λ _ e. let z : ◌≡◌ {A = ℕ} 7 0 = ap (λ (m : Measured). m.refusal) e in absurd (omega arith))
    (λ _ e. let z = total-sums rs stop (t + ticks_in r) (q + readings_in r) T Q e in (omega arith, omega arith))

pub measured_sums : (log : List ℕ) → (measure_of log).refusal ≡ 0
    → ((measure_of log).ticks ≡ sum_in ticks_in (decode log).records) × ((measure_of log).readings ≡ sum_in readings_in (decode log).records)
measured_sums log z =
    let m = measure_of log in
    let t = total-sums (decode log).records (decode log).stop 0 0 m.ticks m.readings (taken log m refl z).all in
    (t.0 ∙ zero-add (sum_in ticks_in (decode log).records), t.1 ∙ zero-add (sum_in readings_in (decode log).records))

-- ---- records that differ only in what is a set's own from the same one

pub same-both : (a : ℕ) (p q r : Parts) → SameBut a p r → SameBut a q r → SameBut a p q
same-both a p q r s t =
    let b = s.bytes in
    let c = t.bytes in
    record {
      bytes =
          record {
            own = λ j k l m o. b.own j k l m o ∙ sym (c.own j k l m o);
            endx = λ j l o. b.endx j l o ∙ sym (c.endx j l o);
            others = λ n l m o. b.others n l m o ∙ sym (c.others n l m o);
          };
      voices = λ j l o. s.voices j l o ∙ sym (t.voices j l o);
      delays = λ j l o. s.delays j l o ∙ sym (t.delays j l o);
      taps = s.taps ∙ sym t.taps;
      left = s.left ∙ sym t.left;
      right = s.right ∙ sym t.right;
      globals = s.globals ∙ sym t.globals;
    }
