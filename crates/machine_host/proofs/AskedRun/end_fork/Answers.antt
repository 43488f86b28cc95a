use Rattle.std.specs.Prelude.{Result, Err}
use Rattle.std.proofs.Common.{sym, ap, subst, ◌∙◌}
use Rattle.value_cells.specs.declared.Value.{Value}
use Rattle.run_host.specs.declared.Exit.{Exit}
use Rattle.run_host.specs.Told.{Fails, told_value}
use Rattle.run_host.specs.Scopes.{told_fork}
use Rattle.machine_host.specs.Leaving.{EndsFork}
use Rattle.machine_host.specs.Runs.{moment_of}
use Rattle.machine_host.proofs.Ending.{run_ends}
use Rattle.machine_host.proofs.AskedRun.end_fork.Goals as goal

pub returns-in-Ok-clause-did : goal.returns-in-Ok-clause-did
returns-in-Ok-clause-did g c =
    let old = moment_of g.A.Asker.seen g.A.Asker.words c.args.self.now in
    let new = moment_of g.A.Asker.seen g.A.Asker.words c.fork_given.new.self in
    subst (λ (e : Result Value Exit). EndsFork (λ nu. told_value nu e) old (λ nu. told_fork nu c.fork_given.result) new) (sym c.in-Ok.is) c.fork_given.ensures.did

pub returns-in-Throw-clause-did : goal.returns-in-Throw-clause-did
returns-in-Throw-clause-did g c =
    let old = moment_of g.A.Asker.seen g.A.Asker.words c.args.self.now in
    let new = moment_of g.A.Asker.seen g.A.Asker.words c.fork_threw.new.self in
    subst (λ (e : Result Value Exit). EndsFork (λ nu. told_value nu e) old (λ nu. told_fork nu c.fork_threw.result) new) (sym (c.in-Err.is ∙ ap Err c.in-Throw.is)) c.fork_threw.ensures.did

pub returns-in-Halted-clause-did : goal.returns-in-Halted-clause-did
returns-in-Halted-clause-did g c =
    let old = moment_of g.A.Asker.seen g.A.Asker.words c.args.self.now in
    let new = moment_of g.A.Asker.seen g.A.Asker.words c.fork_halted.new.self in
    subst (λ (e : Result Value Exit). EndsFork (λ nu. told_value nu e) old (λ nu. told_fork nu c.fork_halted.result) new) (sym (c.in-Err.is ∙ ap Err c.in-Halted.is)) c.fork_halted.ensures.did

pub returns-in-Stopped-clause-did : goal.returns-in-Stopped-clause-did
returns-in-Stopped-clause-did g c =
    let old = moment_of g.A.Asker.seen g.A.Asker.words c.args.self.now in
    let why = c.in-Stopped.why in
    subst (λ (e : Result Value Exit). EndsFork (λ nu. told_value nu e) old (λ nu. Fails why) old) (sym (c.in-Err.is ∙ ap Err c.in-Stopped.is)) (run_ends {told = λ nu. Fails why} old (λ nu. tt))
