-- Laws of the echo: what bounds a fit pointer, what one side's calls give, and that a tick keeps the echo's numbers fit.
use mathlib.Core.List.{List}
use mathlib.Core.Logic.{◌⊎◌, inl, inr}
use mathlib.Core.Path.{◌≡◌, refl}
use Prim.Native.Nat.{ℕ, ◌+◌, ◌%◌, ◌≤◌, ◌<◌}
use native.Mathlib.Omega.{arith}
use borrow.Author.Tests.{leb-false}
use lib.IntN.{ℤ}
use lib.Signed.{mag}
use mir.Syntax.{w8, w16}
use mir.Val.{to_z, of_z}
use Rattle.numbers.specs.Choice.{◌≤?◌, ◌=?◌}
use Rattle.numbers.proofs.Range.{landed}
use Rattle.numbers.proofs.Choice.{tested, chosen}
use Rattle.numbers.specs.Listed.{moved_on}
use Rattle.numbers.specs.Signed.{◌>>◌}
use Rattle.sound.specs.Sound.{fed_back, fir_of}
use Rattle.dsp.specs.Machine.{Globals}
use Rattle.dsp.specs.Fit.{FitGlobals}
use Rattle.dsp.specs.Echo.{echo_read, length_now, pointer_next, echo_moved, history_now, echo_now}
use Rattle.dsp.proofs.Fits.{most_of}

-- ---- one side: its history h, its output y and what it feeds back, z, which the machine reads from their bits
module _ (g : Globals) (ram : List ℕ) (taps : List ℤ) (k : ℕ) (history : List ℤ) (input : ℤ) where
  pub record Side (h : List ℤ) (y z : ℤ) : Type 0 where
    pub moved : h ≡ history_now g ram k history
    pub echo : to_z w16 (of_z w16 y) ≡ echo_now g ram k taps history
    pub fed : to_z w16 (of_z w16 z) ≡ fed_back input (echo_now g ram k taps history) g.efb

  pub side_is : (x : ℤ) (h : List ℤ) (y z : ℤ) → mag x < 0x8000 → mag y < 0x8000 → mag z < 0x8000 → mag input < 0x8000 → mag g.efb < 0x80
      → x ≡ echo_read g ram k → h ≡ moved_on history (to_z w16 (of_z w16 x) >> 1) → y ≡ fir_of h taps
      → z ≡ fed_back (to_z w16 (of_z w16 input)) (to_z w16 (of_z w16 y)) (to_z w8 (of_z w8 g.efb)) → Side h y z
  unfolding history_now echo_now
  side_is x h y z hx hy hz hi he ex eh ey ez =
      let m : h ≡ history_now g ram k history = rw (eh, landed w16 hx, ex) in
      let e : to_z w16 (of_z w16 y) ≡ echo_now g ram k taps history = rw (landed w16 hy, ey, m) in
      record { moved = m; echo = e; fed = rw (landed w16 hz, ez, e, landed w16 {z = input} hi, landed w8 {z = g.efb} he) }

-- ---- kept fit

now_pages : (g : Globals) → FitGlobals g → length_now g % 2048 ≡ 0
unfolding length_now
now_pages g f = chosen (λ (n : ℕ). n % 2048 ≡ 0) (g.echo_ptr =? 0) (omega arith) (omega arith)

now_most : (g : Globals) → FitGlobals g → length_now g ≤ 30720
unfolding length_now
now_most g f = most_of 30720 (g.echo_ptr =? 0) (omega arith) (omega arith)

next_pairs : (g : Globals) → FitGlobals g → pointer_next g % 4 ≡ 0
unfolding pointer_next
next_pairs g f = chosen (λ (n : ℕ). n % 4 ≡ 0) (length_now g ≤? g.echo_ptr + 4) (omega arith) (omega arith)

next_within : (g : Globals) → (pointer_next g ≡ 0) ⊎ (pointer_next g < length_now g)
unfolding pointer_next
next_within g =
    tested (λ (n : ℕ). (n ≡ 0) ⊎ (n < length_now g)) (length_now g ≤? g.echo_ptr + 4) (λ e. inl refl) (λ e. inr (leb-false _ _ e))

pub fit-kept-echo : (g : Globals) (l r : ℤ) → FitGlobals g → FitGlobals (echo_moved g l r)
unfolding echo_moved
fit-kept-echo g l r f = (f.0, (f.1.0, (f.1.1.0, (f.1.1.1.0, (now_pages g f, (now_most g f, (next_pairs g f, (next_within g, tt))))))))
