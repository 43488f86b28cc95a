use Rattle.std.proofs.Common.{refl, ap, subst, ◌∙◌}
use Rattle.turk_base.specs.Names.{path_in}
use Rattle.turk_base.specs.State.{threw}
use Rattle.eval_ops.specs.Calls.{Changes}
use Rattle.eval_ops.specs.Run.{seen_of}
use Rattle.machine_host.specs.Runs.{heap_of, moment_of}
use Rattle.machine_host.proofs.Leaving.{left_then}
use Rattle.machine_host.proofs.AskedRun.branch_threw.Goals as goal

pub returns-in-Ok-told-clause-ok : goal.returns-in-Ok-told-clause-ok
returns-in-Ok-told-clause-ok g c =
    let old = moment_of g.A.Asker.seen g.A.Asker.words c.args.self.now in
    let mid = moment_of g.A.Asker.seen g.A.Asker.words c.branch_joined.new.self in
    left_then (λ nu σ. threw (heap_of c.args.self.now).scope.path σ) old mid (record mid { heap = seen_of c.threw-told.new.self }) c.in_ok-branch_joined.ensures.ok
    (subst (λ p. Changes (λ nu σ. threw p σ) (heap_of c.branch_joined.new.self) (seen_of c.threw-told.new.self)) (ap path_in c.in-Ok.ensures ∙ c.path.ensures.scope) c.in-Ok-told.ensures.ok) refl
