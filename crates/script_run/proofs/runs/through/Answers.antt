use Rattle.std.proofs.Common.{◌∙◌, refl}
use Rattle.run_host.specs.Did.{Runs}
use Rattle.run_host.specs.Moment.{alone, Moment}
use Rattle.run_host.specs.Told.{told_flow}
use Rattle.js_tree.specs.Eval.{meaning}
use Rattle.tree_rows.specs.Codes.{table_in}
use Rattle.machine_host.specs.Runs.{moment_of}
use Rattle.machine_host.specs.Chain.{Later}
use Rattle.machine_host.specs.Laws.{later_all}
use Rattle.machine_host.proofs.Turns.{naming}
use Rattle.eval_ops.specs.Run.{seen_of}
use Rattle.script_run.specs.Tells.{IsRefused}
use Rattle.script_run.proofs.Telling.{caused, told_cause}
use Rattle.script_run.proofs.Whole.{come}
use Rattle.script_run.proofs.Since.{keeps_run, left_run, tasks_run, meant, came_of}
use Rattle.script_run.proofs.runs.through.Goals as goal

pub returns-clause-came : goal.returns-clause-came
returns-clause-came g c = λ S codes body.
    let seen = g.A.Asker.seen in
    let words = g.A.Asker.words in
    let m0 : Moment alone = moment_of seen words c.begin-host.result in
    let m1 : Moment alone = moment_of seen words c.script-flow.new.host in
    let left = c.into_parts.ensures in
    let a = g.A.Asker in
    let h0 = c.begin-host.result in
    let h1 = c.script-flow.new.host in
    let later : Later a.seen a.fits a.keeps a.tells_tasks a.tells_traces a.moment a.left_since h0 h1 = later_all a.seen a.fits a.keeps a.tells_tasks a.tells_traces a.moment a.left_since g.met.A.Asker.keeps_refl g.met.A.Asker.keeps_trans h0 h1 c.script-flow.ensures.ran.same.later in
    let ran : Runs (λ nu. meaning S) (λ nu. told_flow nu c.script-flow.result) m0 m1 = meant S c.args.ready.whole.body.now (table_in c.args.ready.codes) codes body c.script-flow.ensures.ran in (
      h1.notes.unmade,
      come S c.args.ready.session (seen c.args.asker) (seen c.into_parts.result.asker) (seen_of c.args.ready.machine).left c.into_parts.result.forks c.into_parts.result.waits.items (seen_of c.into_parts.result.machine) c.script-flow.result (words c.args.asker) m0 m1
          c.begin-host.ensures.begins ran left.heap left.forks left.waits left.made,
      caused (IsRefused a.refuses (a.fits c.into_parts.result.asker) (a.seen c.into_parts.result.asker) h1.notes.unmade) (naming m1.heap.names).0 c.script-flow.result m0.stopped m1.stopped (ran.shown (naming m1.heap.names).0)
          (told_cause a.seen a.fits a.refuses c.into_parts.result.asker h0 h1 later.refused c.begin-host.ensures.stopped left.asker h1.notes.stopped refl left.cause),
    )

pub returns-clause-keeps : goal.returns-clause-keeps
returns-clause-keeps g c =
    let a = g.A.Asker in
    let h0 = c.begin-host.result in
    let h1 = c.script-flow.new.host in
    let later : Later a.seen a.fits a.keeps a.tells_tasks a.tells_traces a.moment a.left_since h0 h1 = later_all a.seen a.fits a.keeps a.tells_tasks a.tells_traces a.moment a.left_since g.met.A.Asker.keeps_refl g.met.A.Asker.keeps_trans h0 h1 c.script-flow.ensures.ran.same.later in
    keeps_run a.keeps c.args.asker c.into_parts.result.asker h0.asker h1.asker later.keeps c.begin-host.ensures.asker c.into_parts.ensures.asker

pub returns-clause-traces : goal.returns-clause-traces
returns-clause-traces g c = λ S codes body tells.
    let a = g.A.Asker in
    let session = c.args.ready.session in
    let left = (seen_of c.args.ready.machine).left in
    let h0 = c.begin-host.result in
    let h1 = c.script-flow.new.host in
    let later : Later a.seen a.fits a.keeps a.tells_tasks a.tells_traces a.moment a.left_since h0 h1 = later_all a.seen a.fits a.keeps a.tells_tasks a.tells_traces a.moment a.left_since g.met.A.Asker.keeps_refl g.met.A.Asker.keeps_trans h0 h1 c.script-flow.ensures.ran.same.later in
    let ran : Runs (λ nu. meaning S) (λ nu. told_flow nu c.script-flow.result) (moment_of a.seen a.words h0) (moment_of a.seen a.words h1) = meant S c.args.ready.whole.body.now (table_in c.args.ready.codes) codes body c.script-flow.ensures.ran in
    left_run a.seen a.fits a.keeps a.tells_tasks a.tells_traces a.moment a.left_since S session left c.args.asker c.into_parts.result.asker h0 h1 later
    (came_of a.seen a.words S session left c.args.asker h0 h1 c.script-flow.result c.begin-host.ensures.begins c.begin-host.ensures.stopped c.requires.made ran)
    c.begin-host.ensures.asker c.into_parts.ensures.asker (λ t l. g.met.A.Asker.now_is c.args.asker t tells c.requires.sound c.requires.open l) tells

pub returns-clause-tasks : goal.returns-clause-tasks
returns-clause-tasks g c = λ S codes body tells.
    let a = g.A.Asker in
    let session = c.args.ready.session in
    let left = (seen_of c.args.ready.machine).left in
    let h0 = c.begin-host.result in
    let h1 = c.script-flow.new.host in
    let later : Later a.seen a.fits a.keeps a.tells_tasks a.tells_traces a.moment a.left_since h0 h1 = later_all a.seen a.fits a.keeps a.tells_tasks a.tells_traces a.moment a.left_since g.met.A.Asker.keeps_refl g.met.A.Asker.keeps_trans h0 h1 c.script-flow.ensures.ran.same.later in
    let ran : Runs (λ nu. meaning S) (λ nu. told_flow nu c.script-flow.result) (moment_of a.seen a.words h0) (moment_of a.seen a.words h1) = meant S c.args.ready.whole.body.now (table_in c.args.ready.codes) codes body c.script-flow.ensures.ran in
    tasks_run a.seen a.fits a.keeps a.tells_tasks a.tells_traces a.moment a.left_since S session left c.args.asker c.into_parts.result.asker h0 h1 later
    (came_of a.seen a.words S session left c.args.asker h0 h1 c.script-flow.result c.begin-host.ensures.begins c.begin-host.ensures.stopped c.requires.made ran)
    c.begin-host.ensures.asker c.into_parts.ensures.asker (later.session ∙ c.begin-host.ensures.begins.session_is) (λ told t l. g.met.A.Asker.now_is c.args.asker t told c.requires.sound c.requires.open l) tells
