-- Laws of RAM addresses, and of a block that is decoded nibble by nibble into a slice.
use mathlib.Core.Path.{◌≡◌, refl}
use mathlib.Core.List.{List}
use Prim.Native.Nat.{ℕ, suc, ◌+◌, ◌*◌, ◌/◌, ◌%◌, ◌<◌}
use native.Mathlib.Numerals.{add-one}
use native.Mathlib.Omega.{arith}
use lib.IntN.{ℤ}
use lib.ListN.{length, take, set, length-set}
use lib.Seq.{take-suc-set, take_all}
use Rattle.numbers.specs.Unsigned.{wrapped}
use Rattle.numbers.specs.Listed.{listed}
use Rattle.dsp.specs.Ram.{byte_at, word_at}
use Rattle.dsp.specs.Brr.{end_of, loop_of, nibble_at, sample_of, newest, DecodedBlock, decode_block}

-- an address that has wrapped before the sum
pub wraps : (a k : ℕ) → wrapped (wrapped a + k) ≡ wrapped (a + k)
wraps a k = omega arith

pub byte_wraps : (ram : List ℕ) (a k : ℕ) → byte_at ram (wrapped a + k) ≡ byte_at ram (a + k)
unfolding byte_at
byte_wraps ram a k = rw (wraps a k)

pub word_wraps : (ram : List ℕ) (a k : ℕ) → word_at ram (wrapped a + k) ≡ word_at ram (a + k)
unfolding word_at byte_at
word_wraps ram a k =
    let d : wrapped (wrapped a + k + 1) ≡ wrapped (a + k + 1) = omega arith in
    rw (wraps a k, d)

module _ (ram : List ℕ) (a : ℕ) (p1 p2 : ℤ) where
  abbrev sample : ℕ → ℤ
  sample k = (newest ram a p1 p2 (suc k)).prev1

  -- k nibbles are decoded: their samples stand at the front, and these are the two newest
  pub record UpTo (k : ℕ) (samples : List ℤ) (n1 n2 : ℤ) : Type 0 where
    pub sized : length samples ≡ 16
    pub front : take k samples ≡ listed sample k
    pub first : n1 ≡ (newest ram a p1 p2 k).prev1
    pub second : n2 ≡ (newest ram a p1 p2 k).prev2

  pub none : (samples : List ℤ) → length samples ≡ 16 → UpTo 0 samples p1 p2
  unfolding newest listed
  none samples h = record { sized = h; front = refl; first = refl; second = refl }

  one_more : (k : ℕ) (samples : List ℤ) (n1 n2 s : ℤ) → k < 16 → UpTo k samples n1 n2
      → s ≡ sample_of (byte_at ram a) (nibble_at ram a k) n1 n2 → UpTo (suc k) (set samples k s) s n1
  unfolding newest listed
  one_more k samples n1 n2 s l u e =
      let l' : k < length samples = omega arith in
      let d : s ≡ sample k = rw (e, u.first, u.second) in
      record { sized = simp length-set u.sized; front = rw (take-suc-set samples k s l', u.front, d); first = d; second = u.first }

  nibble_high : (i : ℕ) → nibble_at ram a (i * 2) ≡ byte_at ram (a + (1 + i)) / 16
  unfolding nibble_at
  nibble_high i =
      let e : (i * 2) % 2 ≡ 0 = omega arith in
      let d : a + 1 + (i * 2) / 2 ≡ a + (1 + i) = omega arith in
      rw (e, d)

  nibble_low : (i : ℕ) → nibble_at ram a (suc (i * 2)) ≡ byte_at ram (a + (1 + i)) % 16
  unfolding nibble_at
  nibble_low i =
      let e : suc (i * 2) % 2 ≡ 1 = omega arith in
      let d : a + 1 + suc (i * 2) / 2 ≡ a + (1 + i) = omega arith in
      rw (e, d)

  -- one byte more: both of its nibbles
  pub two_more : (i header byte : ℕ) (samples : List ℤ) (n1 n2 s₀ s₁ : ℤ) → i < 8
      → header ≡ byte_at ram (a + 0) → byte ≡ byte_at ram (a + (1 + i)) → UpTo (i * 2) samples n1 n2
      → s₀ ≡ sample_of header (byte / 16) n1 n2 → s₁ ≡ sample_of header (byte % 16) s₀ n1
      → UpTo ((i + 1) * 2) (set (set samples (i * 2) s₀) (i * 2 + 1) s₁) s₁ s₀
  two_more i header byte samples n1 n2 s₀ s₁ l eh eb u e₀ e₁ =
      let z : a + 0 ≡ a = omega arith in
      let n : (i + 1) * 2 ≡ suc (suc (i * 2)) = omega arith in
      let v = one_more (i * 2) samples n1 n2 s₀ (omega arith) u (rw (e₀, eh, z, eb, nibble_high i)) in
      rw (n, add-one) (one_more (suc (i * 2)) (set samples (i * 2) s₀) s₀ n1 s₁ (omega arith) v (rw (e₁, eh, z, eb, nibble_low i)))

  pub whole : (k : ℕ) (samples : List ℤ) (n1 n2 : ℤ) (header : ℕ) → k ≡ 16 → header ≡ byte_at ram (a + 0) → UpTo k samples n1 n2
      → ◌≡◌ {A = DecodedBlock} (record { samples = samples; prev1 = n1; prev2 = n2; end = end_of header; loops = loop_of header }) (decode_block ram a p1 p2)
  unfolding decode_block
  whole k samples n1 n2 header e eh u =
      let z : a + 0 ≡ a = omega arith in
      rw (eh, z, u.first, u.second, ← take_all k samples (omega arith), u.front, e)
