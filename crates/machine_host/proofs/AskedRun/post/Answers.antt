use Rattle.std.proofs.Common.{refl}
use Rattle.turk_base.specs.Asks.{posts}
use Rattle.turk_base.specs.Prog.{Post, ask}
use Rattle.run_host.proofs.Exits.{takes_exit}
use Rattle.machine_host.specs.Runs.{moment_of}
use Rattle.machine_host.proofs.Asked.{asks_post, loses_leaves, from_kept, from_below, from_nothing}
use Rattle.machine_host.proofs.Goings.{later_still, later_trans, later_found}
use Rattle.machine_host.proofs.AskedRun.post.Goals as goal

pub returns-in_err-path-clause-did : goal.returns-in_err-path-clause-did
returns-in_err-path-clause-did g c = takes_exit _ c.from_residual.result c.from_residual.ensures.1 (loses_leaves c.in_err-path.field-0.0 c.in_err-path.ensures.lost)

pub returns-in-Some-clause-did : goal.returns-in-Some-clause-did
returns-in-Some-clause-did g c = from_kept g.A.Asker.seen g.A.Asker.words c.args.self.now c.take_index.new.self c.known.new.self (posts c.args.text.now) (ask (Post c.args.text.now)) (asks_post c.args.text.now) c.in_ok-path.path c.in_ok-path.ensures.taken c.in_ok-path.ensures.asker c.in_ok-path.ensures.notes c.in-Here.ensures.asked c.in-Here.ensures.words
    c.in-Some.record.now c.in-Some.ensures c.post_kept.result c.post_kept.ensures.gives

pub returns-in-Below-clause-did : goal.returns-in-Below-clause-did
returns-in-Below-clause-did g c = from_below g.A.Asker.seen g.A.Asker.words c.args.self.now c.take_index.new.self c.known.new.self (posts c.args.text.now) (ask (Post c.args.text.now)) (asks_post c.args.text.now) c.in_ok-path.path c.in_ok-path.ensures.taken c.in_ok-path.ensures.asker c.in_ok-path.ensures.notes c.in-Below.ensures.asked c.in-Below.ensures.words
    c.in-Below.ensures.known c.post_below.result c.post_below.ensures.told

pub returns-in-Nothing-clause-did : goal.returns-in-Nothing-clause-did
returns-in-Nothing-clause-did g c = from_nothing g.A.Asker.seen g.A.Asker.words c.args.self.now c.take_index.new.self c.known.new.self (posts c.args.text.now) (ask (Post c.args.text.now)) (asks_post c.args.text.now) c.in_ok-path.path c.in_ok-path.ensures.taken c.in_ok-path.ensures.asker c.in_ok-path.ensures.notes c.in-Nothing.ensures.asked c.in-Nothing.ensures.words
    c.in-Nothing.ensures.known (moment_of g.A.Asker.seen g.A.Asker.words c.post_fresh.new.self) c.post_fresh.result c.post_fresh.ensures.did

pub returns-in_err-path-clause-later : goal.returns-in_err-path-clause-later
returns-in_err-path-clause-later g c = later_still g.A.Asker.seen g.A.Asker.fits g.A.Asker.keeps g.A.Asker.tells_tasks g.A.Asker.tells_traces g.A.Asker.moment g.A.Asker.left_since g.met.A.Asker.keeps_refl c.args.self.now c.take_index.new.self c.in_err-path.ensures.still

pub returns-in-Some-clause-later : goal.returns-in-Some-clause-later
returns-in-Some-clause-later g c = later_found g.A.Asker.seen g.A.Asker.fits g.A.Asker.keeps g.A.Asker.tells_tasks g.A.Asker.tells_traces g.A.Asker.moment g.A.Asker.left_since g.met.A.Asker.keeps_refl g.met.A.Asker.keeps_trans c.args.self.now c.take_index.new.self _ c.in_ok-path.path c.in_ok-path.ensures.still c.in-Here.ensures.keeps c.in-Here.ensures.asked c.in-Here.ensures.moment c.in-Here.ensures.traces c.in_ok-path.ensures.open refl

pub returns-in-Below-clause-later : goal.returns-in-Below-clause-later
returns-in-Below-clause-later g c = later_found g.A.Asker.seen g.A.Asker.fits g.A.Asker.keeps g.A.Asker.tells_tasks g.A.Asker.tells_traces g.A.Asker.moment g.A.Asker.left_since g.met.A.Asker.keeps_refl g.met.A.Asker.keeps_trans c.args.self.now c.take_index.new.self _ c.in_ok-path.path c.in_ok-path.ensures.still c.in-Below.ensures.keeps c.in-Below.ensures.asked c.in-Below.ensures.moment c.in-Below.ensures.traces c.in_ok-path.ensures.open refl

pub returns-in-Nothing-clause-later : goal.returns-in-Nothing-clause-later
returns-in-Nothing-clause-later g c =
    let mid = record c.take_index.new.self { asker = c.known.new.self } in
    later_trans g.A.Asker.seen g.A.Asker.fits g.A.Asker.keeps g.A.Asker.tells_tasks g.A.Asker.tells_traces g.A.Asker.moment g.A.Asker.left_since g.met.A.Asker.keeps_trans c.args.self.now mid c.post_fresh.new.self
    (later_found g.A.Asker.seen g.A.Asker.fits g.A.Asker.keeps g.A.Asker.tells_tasks g.A.Asker.tells_traces g.A.Asker.moment g.A.Asker.left_since g.met.A.Asker.keeps_refl g.met.A.Asker.keeps_trans c.args.self.now c.take_index.new.self mid c.in_ok-path.path c.in_ok-path.ensures.still c.in-Nothing.ensures.keeps c.in-Nothing.ensures.asked c.in-Nothing.ensures.moment c.in-Nothing.ensures.traces c.in_ok-path.ensures.open refl)
    c.post_fresh.ensures.later
