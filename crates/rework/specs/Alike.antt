-- Two logs that are the same records in the same order without the named voices' own writes (document 01, refusal 12).
use Rattle.std.specs.Prelude.{Bool, true, false, not, ◌&&◌, List, [], ◌∷◌, ◌≡◌, ℕ, ◌/◌, ◌%◌, ◌≤◌, ◌<◌, length, if◌then◌else◌}
use Rattle.numbers.specs.Choice.{◌<?◌, ◌=?◌}
use Rattle.numbers.specs.Bits.{bit}
use Rattle.chip_log.specs.Log.{records_from}
use Rattle.chip_log.specs.declared.Record.{Record}
use Rattle.chip_log.specs.declared.Record.TheVariants.{Write, Ticks, Reading}
use Rattle.chip_log.specs.Log.{Next}
use Rattle.chip_log.specs.Log.{On, Off}

-- one of $j0 .. $j7 of a named voice j
abbrev pub named : ℕ → ℕ → Bool
named s r = (r % 16 <? 8) && bit s (r / 16)

abbrev pub stays : ℕ → Record → Bool
stays s (Write r x) = not (named s r)
stays s (Ticks n) = true
stays s (Reading r) = true

unfoldable pub without : ℕ → List Record → List Record
without s [] = []
without s (r ∷ rs) =
    if stays s r then r ∷ without s rs else
    without s rs

unfoldable pub same_record : Record → Record → Bool
same_record (Write r x) (Write q y) = (r =? q) && (x =? y)
same_record (Write r x) (Ticks m) = false
same_record (Write r x) (Reading q) = false
same_record (Ticks n) (Write q y) = false
same_record (Ticks n) (Ticks m) = n =? m
same_record (Ticks n) (Reading q) = false
same_record (Reading r) (Write q y) = false
same_record (Reading r) (Ticks m) = false
same_record (Reading r) (Reading q) = r =? q

unfoldable pub same_records : List Record → List Record → Bool
same_records [] [] = true
same_records [] (q ∷ qs) = false
same_records (r ∷ rs) [] = false
same_records (r ∷ rs) (q ∷ qs) = same_record r q && same_records rs qs

unfoldable pub alike : ℕ → List Record → List Record → Bool
alike s rs qs = same_records (without s rs) (without s qs)

-- ---- the next record that stays, from a place on: it opens the rest; or there is none

abbrev pub Opens : ℕ → List ℕ → ℕ → Next → Type 0
Opens s log at (On r behind) =
    (without s (records_from log at) ≡ r ∷ without s (records_from log behind)) × (at < behind) × (behind ≤ length log)
Opens s log at (Off k) = without s (records_from log at) ≡ []
