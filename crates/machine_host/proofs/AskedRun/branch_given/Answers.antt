use Rattle.std.proofs.Common.{refl}
use Rattle.turk_base.specs.State.{give_value}
use Rattle.value_cells.specs.Seen.{val_in}
use Rattle.eval_ops.specs.Run.{seen_of}
use Rattle.machine_host.specs.Runs.{moment_of}
use Rattle.machine_host.proofs.Leaving.{left_then}
use Rattle.machine_host.proofs.AskedRun.branch_given.Goals as goal

pub returns-in-Ok-clause-ok : goal.returns-in-Ok-clause-ok
returns-in-Ok-clause-ok g c =
    let old = moment_of g.A.Asker.seen g.A.Asker.words c.args.self.now in
    let mid = moment_of g.A.Asker.seen g.A.Asker.words c.branch_joined.new.self in
    left_then (λ nu σ. give_value (val_in nu c.args.value) σ) old mid (record mid { heap = seen_of c.give-given.new.self }) c.in_ok-branch_joined.ensures.ok c.in-Ok.ensures.ok refl
