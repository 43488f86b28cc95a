use Rattle.std.proofs.Common.{refl}
use Rattle.turk_base.specs.Names.{path_in}
use Rattle.turk_base.specs.Asks.{draws}
use Rattle.machine_host.specs.Runs.{heap_of, notes_of, moment_of}
use Rattle.machine_host.proofs.Fresh.{as_before, refused_asks, draw_asks}
use Rattle.ask_model.specs.Asker.{entry}
use Rattle.turk_base.specs.declared.Record.TheVariants as kept
use Rattle.machine_host.specs.declared.Unmade.TheVariants.{Asking}
use Rattle.machine_host.specs.declared.Question.TheVariants as question
use Rattle.machine_host.proofs.Goings.{later_made, later_refused, no_held, other_made, other_unmade, no_draw}
use Rattle.machine_host.proofs.AskedRun.draw_fresh.Goals as goal

pub returns-in-Ok-clause-did : goal.returns-in-Ok-clause-did
returns-in-Ok-clause-did g c =
    let h = c.args.self.now in
    let d = c.in-Ok.ensures.drawn in
    draw_asks (heap_of h) (g.A.Asker.seen h.asker) (g.A.Asker.seen c.draw.new.self) (g.A.Asker.words h.asker) (g.A.Asker.words c.draw.new.self) (notes_of h.notes) (g.A.Asker.fits h.asker) (g.A.Asker.fits c.draw.new.self) c.args.path c.args.bound d.value c.in-Ok.value d.adds c.in-Ok.ensures.word c.in-Ok.ensures.words d.is

pub returns-in-Err-clause-did : goal.returns-in-Err-clause-did
returns-in-Err-clause-did g c =
    let h = c.args.self.now in
    let a = c.in-Err.ensures.drawn.adds in
    refused_asks (draws c.args.bound) (path_in c.args.path) (moment_of g.A.Asker.seen g.A.Asker.words h) _ (moment_of g.A.Asker.seen g.A.Asker.words c.refuse.new.self) c.in-Err.stop c.refuse.result (g.A.Asker.words c.draw.new.self)
    (as_before (heap_of h) (g.A.Asker.seen h.asker) (g.A.Asker.seen c.draw.new.self) (g.A.Asker.words h.asker) (g.A.Asker.words c.draw.new.self) (notes_of h.notes) a.stays.trace a.stays.replies a.made) c.refuse.ensures.told
    (λ E su e. refl)

pub returns-in-Ok-clause-later : goal.returns-in-Ok-clause-later
returns-in-Ok-clause-later g c =
    let h = c.args.self.now in
    let d = c.in-Ok.ensures.drawn in
    later_made g.A.Asker.seen g.A.Asker.fits g.A.Asker.is_sound g.A.Asker.keeps g.A.Asker.tells_tasks g.A.Asker.tells_traces g.A.Asker.moment g.A.Asker.left_since g.met.A.Asker.now_is g.met.A.Asker.counts_now h _ (entry c.args.path (kept.Draw c.args.bound d.value)) c.in-Ok.ensures.keeps d.adds c.requires.open (c.requires.sound.asked.going c.requires.open) c.in-Ok.ensures.sound refl d.traces
    (λ tells. other_made g.A.Asker.seen h _ (entry c.args.path (kept.Draw c.args.bound d.value)) (no_draw c.args.path c.args.bound d.value) (c.in-Ok.ensures.tasks tells))

pub returns-in-Err-clause-later : goal.returns-in-Err-clause-later
returns-in-Err-clause-later g c =
    let h = c.args.self.now in
    let d = c.in-Err.ensures.drawn in
    let mid = record h { asker = c.draw.new.self } in
    let unmade = Asking c.args.path (question.Draw c.args.bound) in
    later_refused g.A.Asker.seen g.A.Asker.fits g.A.Asker.is_sound g.A.Asker.keeps g.A.Asker.tells_tasks g.A.Asker.tells_traces g.A.Asker.moment g.A.Asker.left_since g.met.A.Asker.now_is g.met.A.Asker.counts_now h mid c.refuse.new.self (entry c.args.path (kept.Draw c.args.bound d.value)) c.in-Err.stop unmade c.in-Err.ensures.keeps d.adds c.refuse.ensures.closes refl c.requires.open (c.requires.sound.asked.going c.requires.open) c.requires.sound.asked.sound
    (d.value, d.small, refl) (λ m is. no_held m unmade c.in-Err.stop c.in-Err.ensures.no_board is) d.traces (λ tells. other_unmade g.A.Asker.seen h mid c.refuse.new.self c.refuse.ensures.closes.asker (c.in-Err.ensures.tasks tells))
