use Rattle.machine_host.specs.Runs.{moment_of}
use Rattle.machine_host.proofs.Closing.{left_gave, kept_gave}
use Rattle.machine_host.proofs.Goings.{later_still, later_trans}
use Rattle.machine_host.proofs.AskedRun.body_gave.Goals as goal

pub returns-in-Ok-clause-did : goal.returns-in-Ok-clause-did
returns-in-Ok-clause-did g c =
    kept_gave c.args.value c.in-Ok.gift c.body_kept.result (moment_of g.A.Asker.seen g.A.Asker.words c.args.self.now) (moment_of g.A.Asker.seen g.A.Asker.words c.body_data.new.self) (moment_of g.A.Asker.seen g.A.Asker.words c.body_kept.new.self) c.in-Ok.ensures.did c.body_kept.ensures.did

pub returns-clause-did : goal.returns-clause-did
returns-clause-did g c =
    left_gave c.args.value c.in-Err.exit c.body_left.result (moment_of g.A.Asker.seen g.A.Asker.words c.args.self.now) (moment_of g.A.Asker.seen g.A.Asker.words c.body_data.new.self) (moment_of g.A.Asker.seen g.A.Asker.words c.body_left.new.self) c.in-Err.ensures.did c.body_left.ensures.left

pub returns-in-Ok-clause-later : goal.returns-in-Ok-clause-later
returns-in-Ok-clause-later g c = later_trans g.A.Asker.seen g.A.Asker.fits g.A.Asker.keeps g.A.Asker.tells_tasks g.A.Asker.tells_traces g.A.Asker.moment g.A.Asker.left_since g.met.A.Asker.keeps_trans c.args.self.now c.body_data.new.self c.body_kept.new.self (later_still g.A.Asker.seen g.A.Asker.fits g.A.Asker.keeps g.A.Asker.tells_tasks g.A.Asker.tells_traces g.A.Asker.moment g.A.Asker.left_since g.met.A.Asker.keeps_refl c.args.self.now c.body_data.new.self c.in-Ok.ensures.still) c.body_kept.ensures.later

pub returns-clause-later : goal.returns-clause-later
returns-clause-later g c = later_trans g.A.Asker.seen g.A.Asker.fits g.A.Asker.keeps g.A.Asker.tells_tasks g.A.Asker.tells_traces g.A.Asker.moment g.A.Asker.left_since g.met.A.Asker.keeps_trans c.args.self.now c.body_data.new.self c.body_left.new.self (later_still g.A.Asker.seen g.A.Asker.fits g.A.Asker.keeps g.A.Asker.tells_tasks g.A.Asker.tells_traces g.A.Asker.moment g.A.Asker.left_since g.met.A.Asker.keeps_refl c.args.self.now c.body_data.new.self c.in-Err.ensures.still) (later_still g.A.Asker.seen g.A.Asker.fits g.A.Asker.keeps g.A.Asker.tells_tasks g.A.Asker.tells_traces g.A.Asker.moment g.A.Asker.left_since g.met.A.Asker.keeps_refl c.body_data.new.self c.body_left.new.self c.body_left.ensures.still)
