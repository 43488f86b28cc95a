use Rattle.std.proofs.Common.{refl, sym, subst}
use Rattle.run_host.specs.declared.Halt.{Halt}
use Rattle.run_host.specs.declared.Halt.TheVariants.{Waits, Spent, Diverges}
use Rattle.run_host.specs.Told.{Halts}
use Rattle.run_host.specs.Scopes.{told_fork}
use Rattle.machine_host.specs.Leaving.{EndsFork}
use Rattle.machine_host.specs.Runs.{moment_of}
use Rattle.machine_host.proofs.Ending.{absent_ends, run_ends}
use Rattle.machine_host.proofs.AskedRun.fork_halted.Goals as goal

pub returns-in-Refused-clause-did : goal.returns-in-Refused-clause-did
returns-in-Refused-clause-did g c =
    let old = moment_of g.A.Asker.seen g.A.Asker.words c.args.self.now in
    let new = moment_of g.A.Asker.seen g.A.Asker.words c.fork_refused.new.self in
    subst (λ (h : Halt). EndsFork (λ nu. Halts h) old (λ nu. told_fork nu c.fork_refused.result) new) (sym c.in-Refused.is) c.fork_refused.ensures.did

pub returns-in-Waits-clause-did : goal.returns-in-Waits-clause-did
returns-in-Waits-clause-did g c =
    let old = moment_of g.A.Asker.seen g.A.Asker.words c.args.self.now in
    let new = moment_of g.A.Asker.seen g.A.Asker.words c.branch_absent.new.self in
    subst (λ (h : Halt). EndsFork (λ nu. Halts h) old (λ nu. told_fork nu c.branch_absent.result) new) (sym c.in-Waits.is)
    (absent_ends {told = λ nu. Halts Waits} (λ nu. tt) old new c.branch_absent.result refl (λ nu fits. tt) c.branch_absent.ensures.ok c.branch_absent.ensures.err)

pub returns-in-Spent-clause-did : goal.returns-in-Spent-clause-did
returns-in-Spent-clause-did g c =
    let old = moment_of g.A.Asker.seen g.A.Asker.words c.args.self.now in
    subst (λ (h : Halt). EndsFork (λ nu. Halts h) old (λ nu. Halts Spent) old) (sym c.in-Spent.is) (run_ends {told = λ nu. Halts Spent} old (λ nu. tt))

pub returns-in-Diverges-clause-did : goal.returns-in-Diverges-clause-did
returns-in-Diverges-clause-did g c =
    let old = moment_of g.A.Asker.seen g.A.Asker.words c.args.self.now in
    let d = c.in-Diverges.divergence in
    subst (λ (h : Halt). EndsFork (λ nu. Halts h) old (λ nu. Halts (Diverges d)) old) (sym c.in-Diverges.is) (run_ends {told = λ nu. Halts (Diverges d)} old (λ nu. tt))
