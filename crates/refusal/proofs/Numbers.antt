-- No refusal is told as success.
use Rattle.std.proofs.Common.{◌<◌, lit<}
use Rattle.refusal.specs.Refusal.{number}
use Rattle.refusal.specs.declared.Refusal.{Refusal}
use Rattle.refusal.specs.declared.Refusal.TheVariants.{RamSize, Unfit, LogTooLong, UnknownMark, CutShort, NoRegister, TickCount, NoEnd, BehindEnd, WrongRoom, EchoWrites, LogsDiffer, NotWav}

pub positive : (r : Refusal) → 0 < number r
positive RamSize = lit< tt
positive Unfit = lit< tt
positive LogTooLong = lit< tt
positive UnknownMark = lit< tt
positive CutShort = lit< tt
positive NoRegister = lit< tt
positive TickCount = lit< tt
positive NoEnd = lit< tt
positive BehindEnd = lit< tt
positive WrongRoom = lit< tt
positive EchoWrites = lit< tt
positive LogsDiffer = lit< tt
positive NotWav = lit< tt
