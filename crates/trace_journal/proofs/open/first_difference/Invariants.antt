use Rattle.std.proofs.Common.{length, ◌-◌}
use Rattle.trace_journal.proofs.Opening.{SameUntil}
use Rattle.trace_journal.proofs.open.first_difference.Given as goal

abbrev pub invariant-loop-i : goal.invariant-loop-i
invariant-loop-i l = SameUntil l.a l.b l.i

abbrev pub decreases-loop-i : goal.decreases-loop-i
decreases-loop-i l = length l.a - l.i
