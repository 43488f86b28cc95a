use Rattle.std.proofs.Common.{refl, sym, ◌∙◌}
use Rattle.run_host.specs.declared.Halt.TheVariants.{Refused}
use Rattle.run_host.specs.Told.{Halts}
use Rattle.machine_host.specs.Moments.{moment_at}
use Rattle.machine_host.specs.Runs.{heap_of, notes_of, moment_of}
use Rattle.machine_host.proofs.Leaving.{kept_with, lost_same}
use Rattle.machine_host.proofs.Ending.{absent_ends, refused_ends, exit_ends}
use Rattle.machine_host.proofs.AskedRun.fork_refused.Goals as goal

pub returns-then-lacks_branch-clause-did : goal.returns-then-lacks_branch-clause-did
returns-then-lacks_branch-clause-did g c =
    absent_ends {told = λ nu. Halts (Refused c.args.why)} (λ nu. tt) (moment_of g.A.Asker.seen g.A.Asker.words c.args.self.now) (moment_of g.A.Asker.seen g.A.Asker.words c.branch_absent.new.self)
    c.branch_absent.result refl (λ nu fits. sym (c.lacks_branch.ensures nu) ∙ c.if-lacks_branch.true) c.branch_absent.ensures.ok c.branch_absent.ensures.err

pub returns-in_err-keep_done-clause-did : goal.returns-in_err-keep_done-clause-did
returns-in_err-keep_done-clause-did g c =
    let e = c.in_err-keep_done.ensures in
    exit_ends {told = λ nu. Halts (Refused c.args.why)} (λ nu. tt) (moment_of g.A.Asker.seen g.A.Asker.words c.args.self.now) (moment_of g.A.Asker.seen g.A.Asker.words c.keep_done.new.self)
    c.from_residual.result c.in_err-keep_done.field-0.0 c.from_residual.ensures.1
    (lost_same g.A.Asker.seen g.A.Asker.words c.args.self.now c.keep_done.new.self c.in_err-keep_done.field-0.0 e.lost e.same e.asker e.notes)

pub returns-clause-did : goal.returns-clause-did
returns-clause-did g c =
    let e = c.in_ok-keep_done.ensures in
    let old = moment_of g.A.Asker.seen g.A.Asker.words c.args.self.now in
    let new = moment_of g.A.Asker.seen g.A.Asker.words c.keep_done.new.self in
    refused_ends old new (λ nu fits. sym (c.lacks_branch.ensures nu) ∙ c.if-lacks_branch.false) c.args.why
    (kept_with old new e.left (λ i. moment_at (heap_of c.keep_done.new.self) (g.A.Asker.seen (e.asker i)) (g.A.Asker.words (e.asker i)) (notes_of (e.notes i))))
