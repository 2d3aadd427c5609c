-- BRR: a block, which is a header and eight bytes, and its 16 samples.
use Rattle.std.specs.Prelude.{Bool, List, ℕ, zero, suc, ◌+◌, ◌/◌, ◌%◌, ℤ, pos, if◌then◌else◌}
use Rattle.numbers.specs.Listed.{listed}
use Rattle.numbers.specs.Choice.{◌=?◌}
use Rattle.dsp.specs.Ram.{byte_at}
-- what the public decode_brr_nibble gives
pub use Rattle.sound.specs.Brr.{decode_nibble}

-- header: shift bits 7-4, filter 3-2, loop 1, end 0
abbrev pub shift_of : ℕ → ℕ
shift_of header = header / 16

abbrev pub filter_of : ℕ → ℕ
filter_of header = header / 4 % 4

abbrev pub loop_of : ℕ → Bool
loop_of header = header / 2 % 2 =? 1

abbrev pub end_of : ℕ → Bool
end_of header = header % 2 =? 1

-- nibble k of the block at a, the high one of a byte first
unfoldable pub nibble_at : List ℕ → ℕ → ℕ → ℕ
nibble_at ram a k =
    if k % 2 =? 0 then byte_at ram (a + 1 + k / 2) / 16 else
    byte_at ram (a + 1 + k / 2) % 16

-- a nibble decoded under a header, after two samples
unfoldable pub sample_of : ℕ → ℕ → ℤ → ℤ → ℤ
sample_of header n prev1 prev2 = decode_nibble (pos n) (shift_of header) (filter_of header) prev1 prev2

pub record Newest : Type 0 where
  pub prev1 : ℤ
  pub prev2 : ℤ

-- the two newest samples after the first k nibbles of the block at a
unfoldable pub newest : List ℕ → ℕ → ℤ → ℤ → ℕ → Newest
newest ram a p1 p2 zero = record { prev1 = p1; prev2 = p2 }
newest ram a p1 p2 (suc k) =
    record {
      prev1 = sample_of (byte_at ram a) (nibble_at ram a k) (newest ram a p1 p2 k).prev1 (newest ram a p1 p2 k).prev2;
      prev2 = (newest ram a p1 p2 k).prev1;
    }

pub record DecodedBlock : Type 0 where
  pub samples : List ℤ
  pub prev1 : ℤ
  pub prev2 : ℤ
  pub end : Bool
  pub loops : Bool

-- sample k is the newest one after nibble k
unfoldable pub decode_block : List ℕ → ℕ → ℤ → ℤ → DecodedBlock
decode_block ram a p1 p2 =
    record {
      samples = listed (λ k. (newest ram a p1 p2 (suc k)).prev1) 16;
      prev1 = (newest ram a p1 p2 16).prev1;
      prev2 = (newest ram a p1 p2 16).prev2;
      end = end_of (byte_at ram a);
      loops = loop_of (byte_at ram a);
    }
