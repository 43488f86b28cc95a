use Rattle.std.proofs.Common.{subst}
use Rattle.std.specs.Prelude.{ℕ, List}
use Rattle.turk_base.specs.declared.Entry.{Entry}
use Rattle.turk_base.specs.Names.{Units}
use Rattle.machine_host.specs.declared.Unmade.TheVariants.{Nothing}
use Rattle.machine_host.specs.Moments.{unmade_in}
use Rattle.eval_ops.specs.Run.{seen_of}
use Rattle.script_run.specs.Tells.{IsCome}
use Rattle.script_run.proofs.Finishing.{if_err, caused_by}
use Rattle.script_run.specs.Since.{LeavesLeft, HasTasks}
use Rattle.script_run.proofs.Since.{left_still, tasks_still}
use Rattle.script_run.proofs.Telling.{lost_first, end_caused}
use Rattle.script_run.proofs.runs.run.Goals as goal

pub returns-in_default-clause-stopped : goal.returns-in_default-clause-stopped
returns-in_default-clause-stopped g c = (Nothing, lost_first c.args.script.now c.args.name.now (g.A.Asker.seen c.args.asker) c.args.fuel c.requires.made)

pub returns-clause-told : goal.returns-clause-told
returns-clause-told g c =
    let S = c.args.script.now in
    let old = g.A.Asker.seen c.args.asker in
    let parts = c.through-flow.result.parts in
    let new = g.A.Asker.seen parts.asker in
    let ready = c.in-Ok.ready in
    let t = c.through-flow.ensures.came S c.in-Ok.ensures.codes c.in-Ok.ensures.whole in
    c.told.ensures.told (unmade_in t.0) S c.args.name.now old new c.args.fuel
    (subst (λ (n : ℕ). IsCome (unmade_in t.0) S c.args.name.now old new n parts.forks parts.waits.items (seen_of parts.machine) c.through-flow.result.flow) c.in-Ok.ensures.machine.left
    (subst (λ (m : Units). IsCome (unmade_in t.0) S m old new (seen_of ready.machine).left parts.forks parts.waits.items (seen_of parts.machine) c.through-flow.result.flow) c.in-Ok.ensures.session t.1))

pub returns-clause-stopped : goal.returns-clause-stopped
returns-clause-stopped g c =
    let S = c.args.script.now in
    let old = g.A.Asker.seen c.args.asker in
    let parts = c.through-flow.result.parts in
    let new = g.A.Asker.seen parts.asker in
    let ready = c.in-Ok.ready in
    let t = c.through-flow.ensures.came S c.in-Ok.ensures.codes c.in-Ok.ensures.whole in
    if_err c.told.result (λ why x. (t.0, λ E kn. caused_by (end_caused t.2) (x E kn)))
    (c.told.ensures.stopped (unmade_in t.0) S c.args.name.now old new c.args.fuel
    (subst (λ (n : ℕ). IsCome (unmade_in t.0) S c.args.name.now old new n parts.forks parts.waits.items (seen_of parts.machine) c.through-flow.result.flow) c.in-Ok.ensures.machine.left
    (subst (λ (m : Units). IsCome (unmade_in t.0) S m old new (seen_of ready.machine).left parts.forks parts.waits.items (seen_of parts.machine) c.through-flow.result.flow) c.in-Ok.ensures.session t.1)))

-- ---- memory ran out before the first statement, so that the asker was not asked

pub returns-in_default-clause-keeps : goal.returns-in_default-clause-keeps
returns-in_default-clause-keeps g c = g.met.A.Asker.keeps_refl c.args.asker

pub returns-in_default-clause-traces : goal.returns-in_default-clause-traces
returns-in_default-clause-traces g c = λ tells.
    left_still g.A.Asker.seen g.A.Asker.moment g.A.Asker.left_since c.args.script.now c.args.name.now c.args.fuel c.args.asker c.requires.made (λ t l. g.met.A.Asker.now_is c.args.asker t tells c.requires.sound c.requires.open l)

pub returns-in_default-clause-tasks : goal.returns-in_default-clause-tasks
returns-in_default-clause-tasks g c = λ tells. tasks_still c.args.script.now c.args.name.now c.args.fuel _ (g.A.Asker.seen c.args.asker) c.requires.made

-- ---- else

pub returns-clause-traces : goal.returns-clause-traces
returns-clause-traces g c = λ tells.
    let S = c.args.script.now in
    let after = c.through-flow.result.parts.asker in
    subst (λ (n : ℕ). LeavesLeft g.A.Asker.seen g.A.Asker.moment g.A.Asker.left_since S c.args.name.now n c.args.asker after) c.in-Ok.ensures.machine.left
    (subst (λ (m : Units). LeavesLeft g.A.Asker.seen g.A.Asker.moment g.A.Asker.left_since S m (seen_of c.in-Ok.ready.machine).left c.args.asker after) c.in-Ok.ensures.session
    (c.through-flow.ensures.traces S c.in-Ok.ensures.codes c.in-Ok.ensures.whole tells))

pub returns-clause-tasks : goal.returns-clause-tasks
returns-clause-tasks g c = λ tells.
    let S = c.args.script.now in
    let after = c.through-flow.result.parts.asker in
    let leaves = λ (t : List Entry). g.A.Asker.tells_traces × g.A.Asker.left_since after (g.A.Asker.moment after) t in
    subst (λ (n : ℕ). HasTasks S c.args.name.now n leaves (g.A.Asker.seen c.args.asker) (g.A.Asker.seen after)) c.in-Ok.ensures.machine.left
    (subst (λ (m : Units). HasTasks S m (seen_of c.in-Ok.ready.machine).left leaves (g.A.Asker.seen c.args.asker) (g.A.Asker.seen after)) c.in-Ok.ensures.session
    (c.through-flow.ensures.tasks S c.in-Ok.ensures.codes c.in-Ok.ensures.whole tells))
