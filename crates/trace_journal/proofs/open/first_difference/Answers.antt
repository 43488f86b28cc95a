use Rattle.std.proofs.Common.{inr}
use Rattle.trace_journal.proofs.Opening.{ends}
use Rattle.trace_journal.proofs.open.first_difference.Goals as goal

pub returns-else-i-b : goal.returns-else-i-b
returns-else-i-b c = ends c.args.a.now c.args.b.now c.loop-i.i (inr c.if-i-b.false) c.loop-i.invariant
