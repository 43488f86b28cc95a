use Rattle.machine_host.proofs.Goings.{later_refl, later_still, later_trans}
use Rattle.machine_host.proofs.AskedRun.body_kept.Goals as goal

pub returns-in_default-clause-later : goal.returns-in_default-clause-later
returns-in_default-clause-later g c = later_refl g.A.Asker.seen g.A.Asker.fits g.A.Asker.keeps g.A.Asker.tells_tasks g.A.Asker.tells_traces g.A.Asker.moment g.A.Asker.left_since g.met.A.Asker.keeps_refl _

pub returns-clause-later : goal.returns-clause-later
returns-clause-later g c = later_trans g.A.Asker.seen g.A.Asker.fits g.A.Asker.keeps g.A.Asker.tells_tasks g.A.Asker.tells_traces g.A.Asker.moment g.A.Asker.left_since g.met.A.Asker.keeps_trans c.args.self.now c.record_once.new.self c.put_anew.new.self c.in_ok-kept.ensures.later (later_still g.A.Asker.seen g.A.Asker.fits g.A.Asker.keeps g.A.Asker.tells_tasks g.A.Asker.tells_traces g.A.Asker.moment g.A.Asker.left_since g.met.A.Asker.keeps_refl c.record_once.new.self c.put_anew.new.self c.put_anew.ensures.still)
