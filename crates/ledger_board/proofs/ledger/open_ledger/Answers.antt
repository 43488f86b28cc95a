use Rattle.ledger_board.proofs.FileTasks.{ledger_stays}
use Rattle.ledger_board.proofs.ledger.open_ledger.Goals as goal

pub returns-in-Err-clause-tasks : goal.returns-in-Err-clause-tasks
returns-in-Err-clause-tasks g c told = ledger_stays (g.D.Disk.bytes c.args.disk.now) (g.D.Disk.bytes c.open_log.new.disk) (c.open_log.ensures.kept told) (c.open_log.ensures.short told)

pub returns-in-Ok-tasks_of-clause-tasks : goal.returns-in-Ok-tasks_of-clause-tasks
returns-in-Ok-tasks_of-clause-tasks g c told = ledger_stays (g.D.Disk.bytes c.args.disk.now) (g.D.Disk.bytes c.open_log.new.disk) (c.open_log.ensures.kept told) (c.open_log.ensures.short told)

pub returns-in-Err-tasks_of-clause-tasks : goal.returns-in-Err-tasks_of-clause-tasks
returns-in-Err-tasks_of-clause-tasks g c told = ledger_stays (g.D.Disk.bytes c.args.disk.now) (g.D.Disk.bytes c.open_log.new.disk) (c.open_log.ensures.kept told) (c.open_log.ensures.short told)
