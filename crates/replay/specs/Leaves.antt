-- What a record of each leaf must say, how long it is, and what it hands on.
use Rattle.std.specs.Prelude.{Bool, List, ℕ, ℤ}
use Rattle.dsp.specs.Noise.{Noise}
use Rattle.dsp.specs.PowerOn.{new_dsp}
use Rattle.dsp.specs.Brr.{decode_nibble}
use Rattle.replay.specs.Records.{u8_at, i8_at, i16_at, ◌=ℤ?◌}
use Rattle.replay.specs.Block.{block_equal}
use Rattle.replay.specs.Interpolation.{interpolation_equal}
use Rattle.replay.specs.Envelope.{envelope_equal}
use Rattle.replay.specs.Noise.{Check, carry_of, noise_check}
use Rattle.replay.specs.declared.leaves.Leaf.{Leaf}
use Rattle.replay.specs.declared.leaves.Leaf.TheVariants.{Nibble, Block, Interpolation, Envelope, Noise as Noisy}

abbrev pub record_size : Leaf → ℕ
record_size Nibble = 9
record_size Block = 52
record_size Interpolation = 12
record_size Envelope = 16
record_size Noisy = 3

-- what the first record is handed
abbrev pub started : Noise
started = carry_of new_dsp

abbrev pub decoded : List ℕ → ℤ
decoded r = decode_nibble (i8_at r 0) (u8_at r 1) (u8_at r 2) (i16_at r 3) (i16_at r 5)

-- nibble, shift, filter, prev1, prev2 | sample
unfoldable pub nibble_equal : List ℕ → Bool
nibble_equal r = decoded r =ℤ? i16_at r 7

abbrev pub check_of : Leaf → List ℕ → Noise → Check
check_of Nibble r carry = record { equal = nibble_equal r; carry = carry }
check_of Block r carry = record { equal = block_equal r; carry = carry }
check_of Interpolation r carry = record { equal = interpolation_equal r; carry = carry }
check_of Envelope r carry = record { equal = envelope_equal r; carry = carry }
check_of Noisy r carry = noise_check r carry
