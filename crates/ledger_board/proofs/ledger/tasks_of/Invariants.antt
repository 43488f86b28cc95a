use Rattle.std.proofs.Common.{List, ℕ, take}
use Rattle.board_model.specs.Tokens.{HasDistinctTokens}
use Rattle.gate_log.specs.GateLog.{entries_of}
use Rattle.ledger_board.specs.Tasks.{AreTasks}
use Rattle.ledger_board.proofs.ledger.tasks_of.Given as goal

abbrev pub invariant-loop-i : goal.invariant-loop-i
invariant-loop-i l = AreTasks (take l.i (entries_of l.log)) l.tasks.items × HasDistinctTokens l.tasks.items
