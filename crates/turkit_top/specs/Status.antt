-- The numbers of the statuses (own rule).
use Rattle.std.specs.Prelude.{ℕ}
use Rattle.turkit_top.specs.declared.status.Status.{Status}
use Rattle.turkit_top.specs.declared.status.Status.TheVariants.{Finished, Ended, Usage, Syntax, Waiting, Spent, ReadFault, DiskFault, BoardFault, WriteFault, Memory, BadJournal, OtherJournal, Diverged, BadLine, Full, TooLarge, Stopped, NotBuilt}

abbrev pub code_of : Status → ℕ
code_of Finished = 0
code_of Ended = 1
code_of Usage = 2
code_of Syntax = 3
code_of Waiting = 4
code_of Spent = 5
code_of ReadFault = 6
code_of DiskFault = 7
code_of BoardFault = 8
code_of WriteFault = 9
code_of Memory = 10
code_of BadJournal = 11
code_of OtherJournal = 12
code_of Diverged = 13
code_of BadLine = 14
code_of Full = 15
code_of TooLarge = 16
code_of Stopped = 17
code_of NotBuilt = 63
