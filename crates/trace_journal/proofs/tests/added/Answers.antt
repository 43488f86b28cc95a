use Rattle.trace_journal.proofs.tests.added.Goals as goal

pub add_to-last-requires-clause-on : goal.add_to-last-requires-clause-on
add_to-last-requires-clause-on g c = c.loop-index.invariant
