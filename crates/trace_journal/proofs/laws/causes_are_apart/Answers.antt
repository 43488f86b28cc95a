use Rattle.gate_log.specs.Unique.{not_broken}
use Rattle.trace_journal.specs.Apart as apart
use Rattle.trace_journal.specs.Laws as laws
use Rattle.trace_journal.proofs.laws.causes_are_apart.Goals as goal

pub returns-clause-one_journal : goal.returns-clause-one_journal
returns-clause-one_journal c = laws.one_journal

pub returns-clause-one_bad : goal.returns-clause-one_bad
returns-clause-one_bad c = apart.one_bad

pub returns-clause-journal_not_bad : goal.returns-clause-journal_not_bad
returns-clause-journal_not_bad c = apart.journal_not_bad

pub returns-clause-unbegun_not_bad : goal.returns-clause-unbegun_not_bad
returns-clause-unbegun_not_bad c = apart.unbegun_not_bad

pub returns-clause-journal_not_unbegun : goal.returns-clause-journal_not_unbegun
returns-clause-journal_not_unbegun c = apart.journal_not_unbegun

pub returns-clause-log_not_broken : goal.returns-clause-log_not_broken
returns-clause-log_not_broken c = not_broken

pub returns-clause-one_other : goal.returns-clause-one_other
returns-clause-one_other c = apart.one_other

pub returns-clause-same_not_other : goal.returns-clause-same_not_other
returns-clause-same_not_other c = apart.same_not_other
