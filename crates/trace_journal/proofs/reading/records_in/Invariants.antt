use Rattle.std.proofs.Common.{length, ◌-◌}
use Rattle.gate_log.specs.GateLog.{entries_of}
use Rattle.trace_journal.proofs.Parts.{Read}
use Rattle.trace_journal.proofs.reading.records_in.Given as goal

abbrev pub invariant-loop-bytes : goal.invariant-loop-bytes
invariant-loop-bytes l = Read (entries_of l.log) l.i l.trace.entries

abbrev pub decreases-loop-bytes : goal.decreases-loop-bytes
decreases-loop-bytes l = length (entries_of l.log) - l.i
