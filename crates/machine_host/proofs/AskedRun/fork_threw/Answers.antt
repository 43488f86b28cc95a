use Rattle.std.proofs.Common.{refl, sym, ◌∙◌}
use Rattle.turk_base.specs.Values.{Throw}
use Rattle.value_cells.specs.Seen.{val_in}
use Rattle.run_host.specs.Told.{Says}
use Rattle.machine_host.specs.Runs.{moment_of}
use Rattle.machine_host.proofs.Ending.{absent_ends, thrown_ends, exit_ends}
use Rattle.machine_host.proofs.AskedRun.fork_threw.Goals as goal

pub returns-then-lacks_branch-clause-did : goal.returns-then-lacks_branch-clause-did
returns-then-lacks_branch-clause-did g c =
    absent_ends {told = λ nu. Says (Throw (val_in nu c.args.value))} (λ nu. tt) (moment_of g.A.Asker.seen g.A.Asker.words c.args.self.now) (moment_of g.A.Asker.seen g.A.Asker.words c.branch_absent.new.self)
    c.branch_absent.result refl (λ nu fits. sym (c.lacks_branch.ensures nu) ∙ c.if-lacks_branch.true) c.branch_absent.ensures.ok c.branch_absent.ensures.err

pub returns-in_err-branch_threw-clause-did : goal.returns-in_err-branch_threw-clause-did
returns-in_err-branch_threw-clause-did g c =
    exit_ends {told = λ nu. Says (Throw (val_in nu c.args.value))} (λ nu. tt) (moment_of g.A.Asker.seen g.A.Asker.words c.args.self.now) (moment_of g.A.Asker.seen g.A.Asker.words c.branch_threw.new.self)
    c.from_residual.result c.in_err-branch_threw.field-0.0 c.from_residual.ensures.1 c.in_err-branch_threw.ensures.err

pub returns-clause-did : goal.returns-clause-did
returns-clause-did g c =
    thrown_ends (moment_of g.A.Asker.seen g.A.Asker.words c.args.self.now) (moment_of g.A.Asker.seen g.A.Asker.words c.branch_threw.new.self) (λ nu fits. sym (c.lacks_branch.ensures nu) ∙ c.if-lacks_branch.false)
    c.args.value c.in_ok-branch_threw.ensures.ok
