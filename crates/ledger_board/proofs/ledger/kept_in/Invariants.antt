use Rattle.std.proofs.Common.{◌≡◌, drop}
use Rattle.turk_base.specs.Trace.{answer}
use Rattle.ledger_board.proofs.ledger.kept_in.Given as goal

abbrev pub invariant-loop-task : goal.invariant-loop-task
invariant-loop-task l = answer (drop l.task-index l.tasks) l.token ≡ answer l.tasks l.token
