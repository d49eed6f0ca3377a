-- The number of each refusal.
use Rattle.std.specs.Prelude.{ℕ}
use Rattle.theory.specs.declared.fault.PackFault.{PackFault}
use Rattle.theory.specs.declared.fault.PackFault.TheVariants.{Setting, Memory, SmallWire, BusyWire, NoBoard, NoSlot, BadSize, BadOffset, Collecting, Waiting, NoReference, PastEnd, NoEntry, NoRoom, Requested, NothingWaits}

abbrev pub number : PackFault → ℕ
number Setting = 5
number Memory = 5
number SmallWire = 6
number BusyWire = 7
number NoBoard = 8
number NoSlot = 9
number BadSize = 10
number BadOffset = 10
number Collecting = 11
number Waiting = 12
number NoReference = 13
number PastEnd = 14
number NoEntry = 15
number NoRoom = 16
number Requested = 17
number (NothingWaits _) = 18
