use Rattle.std.proofs.Common.{◌≡◌, false}
use Rattle.trace_journal.specs.TraceJournal.{is_closed_of, IsOn}
use Rattle.trace_journal.proofs.tests.added.Given as goal

abbrev pub invariant-loop-index : goal.invariant-loop-index
invariant-loop-index g l = is_closed_of l.journal ≡ false → g.D.Disk.tells → IsOn l.journal (g.D.Disk.bytes l.disk) (g.D.Disk.left_since l.disk (g.D.Disk.moment l.disk))
