use Rattle.std.proofs.Common.{sym, subst}
use Rattle.std.specs.Prelude.{Result}
use Rattle.value_cells.specs.declared.Value.{Value}
use Rattle.run_host.specs.declared.Exit.{Exit}
use Rattle.run_host.specs.Told.{told_value}
use Rattle.machine_host.specs.Bodies.{EndsOnce}
use Rattle.machine_host.specs.Runs.{moment_of}
use Rattle.machine_host.proofs.Closing.{end_left}
use Rattle.machine_host.proofs.Goings.{later_still}
use Rattle.machine_host.proofs.AskedRun.end_once.Goals as goal

pub returns-in-Err-clause-did : goal.returns-in-Err-clause-did
returns-in-Err-clause-did g c = end_left c.args.ended c.in-Err.exit c.body_left.result (moment_of g.A.Asker.seen g.A.Asker.words c.args.self.now) (moment_of g.A.Asker.seen g.A.Asker.words c.body_left.new.self) c.in-Err.is c.body_left.ensures.left

pub returns-in-Ok-clause-did : goal.returns-in-Ok-clause-did
returns-in-Ok-clause-did g c =
    subst (λ (a : Result Value Exit). EndsOnce (λ nu. told_value nu a) (moment_of g.A.Asker.seen g.A.Asker.words c.args.self.now) (λ nu. told_value nu c.body_gave.result) (moment_of g.A.Asker.seen g.A.Asker.words c.body_gave.new.self)) (sym c.in-Ok.is) c.body_gave.ensures.did

pub returns-in-Err-clause-later : goal.returns-in-Err-clause-later
returns-in-Err-clause-later g c = later_still g.A.Asker.seen g.A.Asker.fits g.A.Asker.keeps g.A.Asker.tells_tasks g.A.Asker.tells_traces g.A.Asker.moment g.A.Asker.left_since g.met.A.Asker.keeps_refl c.args.self.now c.body_left.new.self c.body_left.ensures.still
