use Rattle.ask_model.proofs.Numbered.{Numbered}
use Rattle.ask_model.proofs.tests.draws_made.Given as goal

abbrev pub invariant-loop-i : goal.invariant-loop-i
invariant-loop-i l = Numbered l.i l.entries.items
