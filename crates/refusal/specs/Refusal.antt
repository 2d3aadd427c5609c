-- The numbers of document 01's table, "Refusal numbers", and 13 of document 02, W-201.
use Rattle.std.specs.Prelude.{ℕ, Result, Ok, Err}
use Rattle.refusal.specs.declared.Refusal.{Refusal}
use Rattle.refusal.specs.declared.Refused.{Refused}
use Rattle.refusal.specs.declared.Refusal.TheVariants.{RamSize, Unfit, LogTooLong, UnknownMark, CutShort, NoRegister, TickCount, NoEnd, BehindEnd, WrongRoom, EchoWrites, LogsDiffer, NotWav}

abbrev pub number : Refusal → ℕ
number RamSize = 1
number Unfit = 2
number LogTooLong = 3
number UnknownMark = 4
number CutShort = 5
number NoRegister = 6
number TickCount = 7
number NoEnd = 8
number BehindEnd = 9
number WrongRoom = 10
number EchoWrites = 11
number LogsDiffer = 12
number NotWav = 13

-- "Success answers 0. A refusal answers its number"
abbrev pub code : {A : Type 0} → Result A Refusal → ℕ
code (Ok a) = 0
code (Err r) = number r

-- "Success answers 0. A refusal answers its number, the record given": the number, and the record that is handed back, of a call that
-- answers a record or is refused
abbrev pub told : {A B : Type 0} → Result A (Refused B) → ℕ
told (Ok a) = 0
told (Err e) = number e.refusal

abbrev pub handed : {A : Type 0} → Result A (Refused A) → A
handed (Ok a) = a
handed (Err e) = e.given
