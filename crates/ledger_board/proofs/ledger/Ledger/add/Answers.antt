use Rattle.std.proofs.Common.{rules, ◌≡◌, ◌++◌, ◌∷◌, [], ℕ, List, false, sym, ap, subst, ◌∙◌, Err}
use Rattle.board_model.specs.Tokens.{Tasks}
use Rattle.gate_log.specs.GateLog.{entries_of, is_closed_of, IsOn}
use Rattle.record_bytes.specs.Limits.{SpellsTask}
use Rattle.ledger_board.specs.Tasks.{ledger_tasks}
use Rattle.ledger_board.specs.Stops.{Leaves}
use Rattle.ledger_board.specs.declared.stop.LedgerStop.{LedgerStop}
use Rattle.ledger_board.proofs.Outcomes.{add_open, added, left_after, not_err, fault_leaves}
use Rattle.ledger_board.proofs.ledger.Ledger.add.Goals as goal

pub returns-in-Ok-append-clause-open : goal.returns-in-Ok-append-clause-open
returns-in-Ok-append-clause-open g c fine =
    let l = c.args.self.now in
    let entry = c.deref.result.now in
    let spelled : SpellsTask entry c.args.token.now c.args.text.now = subst (λ (b : List ℕ). SpellsTask b c.args.token.now c.args.text.now) (sym c.deref.ensures.value) c.in-Ok.ensures in
    let tasks : c.push_reserved.new.self.items ≡ l.tasks.items ++ (c.args.token.now, c.args.text.now) ∷ [] = search rules in
    let unclosed : is_closed_of c.append.new.self ≡ false = search rules in
    add_open g.D.Disk.tells (g.D.Disk.bytes c.append.new.disk) (g.D.Disk.left_since c.append.new.disk (g.D.Disk.moment c.append.new.disk)) l _ entry c.args.token.now c.args.text.now
    c.requires.open.spelled c.requires.open.distinct c.in-Ok-append.ensures.ok tasks c.requires.missing spelled unclosed c.in-Ok-append.ensures.on

pub returns-in-Ok-append-clause-tasks : goal.returns-in-Ok-append-clause-tasks
returns-in-Ok-append-clause-tasks g c told =
    let l = c.args.self.now in
    let entry = c.deref.result.now in
    let spelled : SpellsTask entry c.args.token.now c.args.text.now = subst (λ (b : List ℕ). SpellsTask b c.args.token.now c.args.text.now) (sym c.deref.ensures.value) c.in-Ok.ensures in
    added g.D.Disk.tells (g.D.Disk.bytes c.args.disk.now) (g.D.Disk.bytes c.append.new.disk) (g.D.Disk.left_since c.args.disk.now (g.D.Disk.moment c.args.disk.now)) (g.D.Disk.left_since c.append.new.disk (g.D.Disk.moment c.append.new.disk)) l c.append.new.self entry c.args.token.now c.args.text.now
    told c.requires.open c.in-Ok-append.ensures.ok c.requires.missing spelled (c.in-Ok-append.ensures.on told)

pub returns-in-Err-clause-tasks : goal.returns-in-Err-clause-tasks
returns-in-Err-clause-tasks g c told =
    let l = c.args.self.now in
    let entry = c.deref.result.now in
    let token = c.args.token.now in
    let text = c.args.text.now in
    let old : Tasks = ledger_tasks (g.D.Disk.bytes c.args.disk.now) in
    let new : Tasks = ledger_tasks (g.D.Disk.bytes c.append.new.disk) in
    let spelled : SpellsTask entry token text = subst (λ (b : List ℕ). SpellsTask b token text) (sym c.deref.ensures.value) c.in-Ok.ensures in
    let on = c.requires.open.on told in
    subst (λ (x : LedgerStop). Leaves token text old new (Err x)) (sym c.stop_of.ensures)
    (left_after token text old new c.in-Err.stop
    (λ is. fault_leaves g.D.Disk.bytes g.D.Disk.moment g.D.Disk.left_since c.args.disk.now c.append.new.disk (entries_of l.log) l.tasks.items entry token text
    (g.met.D.Disk.reads_an_image c.append.new.disk told)
    (λ t x le now. g.met.D.Disk.counts_now c.append.new.disk t x told le now)
    (c.in-Err.ensures.any_moment told) on.only on.holds c.requires.open.spelled c.requires.open.distinct c.requires.missing spelled)
    (λ other. ap (λ d. ledger_tasks (g.D.Disk.bytes d)) (c.in-Err.ensures.untouched (not_err c.in-Err.stop other))))
