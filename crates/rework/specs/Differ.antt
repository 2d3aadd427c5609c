-- Records that differ only in the parts that are a set's own: voice records, key-on delays, registers $j0 .. $j9, ENDX bits.
use Rattle.std.specs.Prelude.{false, List, ◌≢◌, ◌≡◌, ℕ, ◌+◌, ◌*◌, ◌%◌, ◌≤◌, ◌<◌, get_or, length}
use Rattle.numbers.specs.Bits.{bit}
use Rattle.sound.specs.Sound.{to16}
use Rattle.dsp.specs.Machine.{no_voice, Parts}

-- voice j is not of the set
abbrev pub Outside : ℕ → ℕ → Type 0
Outside a j = bit a j ≡ false

pub record SameBytes (a : ℕ) (x y : List ℕ) : Type 0 where
  pub own : (j k : ℕ) → j < 8 → k < 10 → Outside a j → get_or x (j * 16 + k) 0 ≡ get_or y (j * 16 + k) 0
  pub endx : (j : ℕ) → j < 8 → Outside a j → bit (get_or x 0x7C 0) j ≡ bit (get_or y 0x7C 0) j
  pub others : (n : ℕ) → n < 128 → 10 ≤ n % 16 → n ≢ 0x7C → get_or x n 0 ≡ get_or y n 0

pub record SameBut (a : ℕ) (p q : Parts) : Type 0 where
  pub bytes : SameBytes a p.registers q.registers
  pub voices : (j : ℕ) → j < 8 → Outside a j → get_or p.voices j no_voice ≡ get_or q.voices j no_voice
  pub delays : (j : ℕ) → j < 8 → Outside a j → get_or p.delays j 0 ≡ get_or q.delays j 0
  pub taps : p.taps ≡ q.taps
  pub left : p.left ≡ q.left
  pub right : p.right ≡ q.right
  pub globals : p.globals ≡ q.globals

-- what the type of a record says of these parts: lengths, bytes, and samples of 16 bits
pub record Value (p : Parts) : Type 0 where
  pub registers : length p.registers ≡ 128
  pub bytes : (n : ℕ) → get_or p.registers n 0 < 256
  pub voices : length p.voices ≡ 8
  pub delays : length p.delays ≡ 8
  pub samples : (j : ℕ) → j < 8 → to16 (get_or p.voices j no_voice).current_sample ≡ (get_or p.voices j no_voice).current_sample
