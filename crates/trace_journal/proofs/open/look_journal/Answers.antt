use Rattle.trace_journal.proofs.Opening.{looked_some}
use Rattle.trace_journal.proofs.open.look_journal.Goals as goal

pub returns-in-Ok-clause-of_some_bytes : goal.returns-in-Ok-clause-of_some_bytes
returns-in-Ok-clause-of_some_bytes g c = looked_some c.in-Ok.log c.journal_in.result c.journal_in.ensures.some
