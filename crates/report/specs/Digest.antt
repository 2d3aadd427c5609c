-- FNV-1a, 64 bits: a byte is mixed in by an exclusive or, then a product with the prime. Of bytes one after another, and of what a run leaves.
use Rattle.std.specs.Prelude.{ℕ, ◌*◌, ◌%◌, ◌^◌, Bool, ◌&&◌, List, [], ◌∷◌, bit_xor}
use Rattle.std.specs.List.{fold}
use Rattle.numbers.specs.Choice.{◌=?◌}
use Rattle.dsp.specs.declared.registers.Dsp.{Dsp}
use Rattle.report.specs.declared.left.Left.{Left}

abbrev pub fnv : ℕ → ℕ → ℕ
fnv sum byte = bit_xor sum byte * 0x100000001B3 % 2 ^ 64

abbrev pub fnv_all : ℕ → List ℕ → ℕ
fnv_all sum bytes = fold fnv sum bytes

-- the digest of no byte
abbrev pub empty : ℕ
empty = 0xCBF29CE484222325

abbrev pub digest_of : List ℕ → ℕ
digest_of bytes = fnv_all empty bytes

-- EDL and PMON as used, which may differ from their registers
abbrev pub used : Dsp → List ℕ
used d = d.edl ∷ d.pmon ∷ []

-- ---- what a run leaves, in digests

-- of the samples and of the readings the digests are given
abbrev pub left_by : Dsp → List ℕ → ℕ → ℕ → Left
left_by d ram pcm readings = record { dsp = fnv_all (digest_of d.registers) (used d); ram = digest_of ram; pcm = pcm; readings = readings }

abbrev pub same_left : Left → Left → Bool
same_left a b = (a.dsp =? b.dsp) && (a.ram =? b.ram) && (a.pcm =? b.pcm) && (a.readings =? b.readings)
