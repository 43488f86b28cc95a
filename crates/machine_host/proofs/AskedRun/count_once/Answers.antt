use Rattle.machine_host.specs.Runs.{moment_of}
use Rattle.machine_host.proofs.Counted.{if_ok, counted}
use Rattle.machine_host.proofs.AskedRun.count_once.Goals as goal

pub returns-clause-counted : goal.returns-clause-counted
returns-clause-counted g c =
    let e = c.once_at.ensures.did in
    let new = moment_of g.A.Asker.seen g.A.Asker.words c.take_index.new.self in
    if_ok c.take_index.result (counted g.A.Asker.seen g.A.Asker.words c.args.self.now c.once_at.new.self (record { names = e.names; scope = e.scope; outer = e.outer; left = e.left; first = e.first }) new) c.take_index.ensures.taken
