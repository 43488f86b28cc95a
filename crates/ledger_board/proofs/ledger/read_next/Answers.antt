use Rattle.std.proofs.Common.{rules, arith, ◌≡◌, ◌+◌, ◌++◌, ◌∷◌, [], ℕ, take, None, subst, sym}
use Rattle.turk_base.specs.Trace.{answer}
use Rattle.board_model.specs.Tokens.{Tasks, HasDistinctTokens}
use Rattle.board_model.proofs.Added.{tasks_push}
use Rattle.gate_log.specs.GateLog.{entries_of}
use Rattle.ledger_board.specs.Tasks.{AreTasks}
use Rattle.ledger_board.proofs.FileEntries.{count_blocks}
use Rattle.ledger_board.proofs.FileTasks.{tasks_next}
use Rattle.ledger_board.proofs.ledger.read_next.Goals as goal

pub overflow_cast-i : goal.overflow_cast-i
overflow_cast-i c = omega (arith, count_blocks (entries_of c.args.log.now), c.args.log.now.at_gate, c.args.log.now.within, c.requires.inside)

pub returns-clause-spelled : goal.returns-clause-spelled
returns-clause-spelled c =
    let pushed : c.push_reserved.new.self.items ≡ c.args.tasks.now.items ++ c.in-Ok.task ∷ [] = search rules in
    subst (λ (ts : Tasks). AreTasks (take (c.args.i + 1) (entries_of c.args.log.now)) ts) (sym pushed)
    (tasks_next (entries_of c.args.log.now) c.args.i c.args.tasks.now.items c.in-Some.entry.now c.in-Ok.task c.requires.inside c.in-Some.ensures.1 c.requires.spelled c.in-Ok.ensures.ok.0)

pub returns-clause-distinct : goal.returns-clause-distinct
returns-clause-distinct c =
    let pushed : c.push_reserved.new.self.items ≡ c.args.tasks.now.items ++ c.in-Ok.task ∷ [] = search rules in
    let none : answer c.args.tasks.now.items c.in-Ok.task.0 ≡ None = subst (λ (ts : Tasks). answer ts c.in-Ok.task.0 ≡ None) c.deref.ensures.value c.in-Ok.ensures.ok.1 in
    subst (λ (ts : Tasks). HasDistinctTokens ts) (sym pushed) (tasks_push c.args.tasks.now.items c.in-Ok.task.0 c.in-Ok.task.1 c.requires.distinct none)
