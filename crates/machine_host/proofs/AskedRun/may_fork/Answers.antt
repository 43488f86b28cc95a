use Rattle.std.proofs.Common.{sym, ◌∙◌}
use Rattle.machine_host.specs.Runs.{moment_of}
use Rattle.machine_host.proofs.Halting.{forks_refused, forks_allowed}
use Rattle.machine_host.proofs.AskedRun.may_fork.Goals as goal

pub returns-then-in_once-clause-did : goal.returns-then-in_once-clause-did
returns-then-in_once-clause-did g c = forks_refused (moment_of g.A.Asker.seen g.A.Asker.words c.args.self.now) (sym c.in_once.ensures ∙ c.if-in_once.true)

pub returns-clause-did : goal.returns-clause-did
returns-clause-did g c = forks_allowed (moment_of g.A.Asker.seen g.A.Asker.words c.args.self.now) (sym c.in_once.ensures ∙ c.if-in_once.false)
