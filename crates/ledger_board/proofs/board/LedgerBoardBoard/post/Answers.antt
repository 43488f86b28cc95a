use Rattle.std.proofs.Common.{rules, ◌≡◌, List, ℕ, sym, subst}
use Rattle.std.specs.Prelude.{OnOk}
use Rattle.board_model.specs.Board.{IsHonest}
use Rattle.ledger_board.specs.Tasks.{ledger_tasks, IsLedger}
use Rattle.ledger_board.proofs.FileTasks.{ledger_distinct}
use Rattle.ledger_board.proofs.Outcomes.{honest_of, log_after}
use Rattle.ledger_board.proofs.board.LedgerBoardBoard.post.Goals as goal

pub returns-clause-distinct : goal.returns-clause-distinct
returns-clause-distinct g c told = ledger_distinct (g.D.Disk.bytes c.answered.new.self.disk)

pub returns-clause-honest : goal.returns-clause-honest
returns-clause-honest g c told =
    let token = c.args.token.now in
    let text = c.args.text.now in
    let after : c.answered.new.self.disk ≡ c.advance-state.new.disk = search rules in
    let before : c.args.self.now.disk ≡ c.self.inside.disk = search rules in
    let honest = honest_of g.D.Disk.tells _ _ (g.D.Disk.bytes c.self.inside.disk) (g.D.Disk.bytes c.advance-state.new.disk) token text c.advance-state.result.1 told c.advance-state.ensures.posted (c.advance-state.ensures.tasks told) in
    subst (λ d. IsHonest token text (ledger_tasks (g.D.Disk.bytes d)) (ledger_tasks (g.D.Disk.bytes c.answered.new.self.disk)) c.answered.result) (sym before)
    (subst (λ d. IsHonest token text (ledger_tasks (g.D.Disk.bytes c.self.inside.disk)) (ledger_tasks (g.D.Disk.bytes d)) c.answered.result) (sym after)
    (subst (λ r. IsHonest token text (ledger_tasks (g.D.Disk.bytes c.self.inside.disk)) (ledger_tasks (g.D.Disk.bytes c.advance-state.new.disk)) r) (sym c.answered.ensures.result) honest))

pub returns-clause-log : goal.returns-clause-log
returns-clause-log g c told =
    let after : c.answered.new.self.disk ≡ c.advance-state.new.disk = search rules in
    subst (λ d. OnOk c.answered.result (IsLedger (g.D.Disk.bytes d) (ledger_tasks (g.D.Disk.bytes d)))) (sym after)
    (subst (λ r. OnOk r (IsLedger (g.D.Disk.bytes c.advance-state.new.disk) (ledger_tasks (g.D.Disk.bytes c.advance-state.new.disk)))) (sym c.answered.ensures.result)
    (log_after g.D.Disk.tells (g.D.Disk.bytes c.advance-state.new.disk) _ c.advance-state.result.0 c.advance-state.result.1 told c.advance-state.ensures.sound c.advance-state.ensures.opened))
