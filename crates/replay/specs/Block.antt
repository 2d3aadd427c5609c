-- What a record of a block must say.
use Rattle.std.specs.Prelude.{Bool, true, not, ◌&&◌, List, ℕ, zero, suc, ◌+◌, ◌*◌, ℤ, pos, get_or, take, drop, replicate, set, if◌then◌else◌}
use Rattle.numbers.specs.Choice.{◌≤?◌, ◌=?◌}
use Rattle.numbers.specs.Unsigned.{wrapped}
use Rattle.dsp.specs.Registers.{Written}
use Rattle.dsp.specs.declared.voice.Voice.{Voice}
use Rattle.replay.specs.Records.{u8_at, u16_at, i16_at, ◌=ℤ?◌}
use Rattle.replay.specs.Machine.{zeros, steady, playback, playing, answered, sound_of}

-- RAM with the first k bytes of a part at an address
unfoldable pub laid : List ℕ → ℕ → ℕ → List ℕ → List ℕ
laid part at zero ram = ram
laid part at (suc k) ram = set (laid part at k ram) (wrapped (at + k)) (u8_at part k)

-- the first k samples are those of the record
unfoldable pub samples_equal : List ℤ → List ℕ → ℕ → Bool
samples_equal samples r zero = true
samples_equal samples r (suc k) = samples_equal samples r k && (get_or samples k (pos 0) =ℤ? i16_at r (15 + k * 2))

-- bit 0 end, bit 1 loop, which shows in key_on where the end flag is set
abbrev pub flags_equal : ℕ → Bool → Bool → Bool
flags_equal flags end on =
    if flags =? 1 then end && not on else
    if flags =? 3 then end && on else
    not end && on && (flags ≤? 2)

-- the directory entry stands $100 past the block's start
abbrev pub ram_of : List ℕ → List ℕ
ram_of r = laid (take 2 r) (wrapped (u16_at r 0 + 0x100)) 2 (laid (take 9 (drop 2 r)) (u16_at r 0) 9 zeros)

unfoldable pub played_block : List ℕ → Written
played_block r =
    answered (playing steady (playback (wrapped (u16_at r 0 + 0x100)) (i16_at r 11) (i16_at r 13) 0) 0 (replicate 4 (pos 0))) (ram_of r)

abbrev pub voice_says : Voice → List ℕ → Bool
voice_says v r =
    samples_equal v.brr.sample_buffer r 16 && (v.brr.prev1 =ℤ? i16_at r 47) && (v.brr.prev2 =ℤ? i16_at r 49)
    && flags_equal (u8_at r 51) v.brr.block_end v.key_on

abbrev pub block_says : Written → List ℕ → Bool
block_says a r = (a.refusal =? 0) && voice_says (sound_of a.dsp) r

-- address, nine bytes, prev1, prev2 | 16 samples, prev1, prev2, flags
unfoldable pub block_equal : List ℕ → Bool
block_equal r = block_says (played_block r) r
