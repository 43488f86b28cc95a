use Rattle.std.proofs.Common.{refl, ap, subst, Ok, Err, ℕ, List}
use Rattle.turk_base.specs.Names.{path_in}
use Rattle.turk_base.specs.Asks.{replies}
use Rattle.run_host.specs.Moment.{asking, draws_in}
use Rattle.machine_host.specs.Asking.{Refuses, AwaitsTask}
use Rattle.machine_host.specs.Moments.{moment_at}
use Rattle.machine_host.specs.Runs.{heap_of, notes_of, moment_of}
use Rattle.machine_host.proofs.Fresh.{none_made, refused_asks, reply_asks, reply_missing, reply_refused, reply_lacks, waits_for}
use Rattle.turk_base.specs.Trace.{answer}
use Rattle.machine_host.specs.declared.Unmade.TheVariants.{Asking}
use Rattle.machine_host.specs.declared.Question.TheVariants as question
use Rattle.machine_host.proofs.Goings.{later_refl, later_trans, later_still, later_replied, later_unreplied, later_reply_refused}
use Rattle.machine_host.proofs.AskedRun.reply_fresh.Goals as goal

pub returns-then-len-gt-MOST_UNITS-clause-did : goal.returns-then-len-gt-MOST_UNITS-clause-did
returns-then-len-gt-MOST_UNITS-clause-did g c = none_made _ _ refl

pub returns-in_default-clause-did : goal.returns-in_default-clause-did
returns-in_default-clause-did g c = none_made _ _ refl

pub returns-in-Ok-Some-clause-did : goal.returns-in-Ok-Some-clause-did
returns-in-Ok-Some-clause-did g c =
    let h = c.args.self.now in
    reply_asks (heap_of h) (g.A.Asker.seen h.asker) (g.A.Asker.seen c.reply.new.self) (g.A.Asker.words h.asker) (g.A.Asker.words c.reply.new.self) c.in-Ok-Some.ensures.words (notes_of h.notes) (g.A.Asker.fits h.asker) (g.A.Asker.fits c.reply.new.self) c.args.path c.args.task.now c.in-Ok-Some.text (Ok c.in-Ok-Some.field-0)
    (ap Ok c.in-Ok-Some.field-0-is) c.in-Ok-Some.ensures.replies

pub returns-in-Ok-None-clause-did : goal.returns-in-Ok-None-clause-did
returns-in-Ok-None-clause-did g c =
    let h = c.args.self.now in
    let m = reply_missing (heap_of h) (g.A.Asker.seen h.asker) (g.A.Asker.seen c.reply.new.self) (g.A.Asker.words h.asker) (g.A.Asker.words c.reply.new.self) c.in-Ok-None.ensures.words (notes_of h.notes) (g.A.Asker.fits h.asker) (g.A.Asker.fits c.reply.new.self) c.args.path c.args.task.now (Ok c.in-Ok-None.field-0)
    (ap Ok c.in-Ok-None.field-0-is) c.in-Ok-None.ensures.replies in
    waits_for c.args.task.now (path_in c.args.path) (moment_of g.A.Asker.seen g.A.Asker.words h) (moment_at (heap_of h) (g.A.Asker.seen c.reply.new.self) (g.A.Asker.words c.reply.new.self) (notes_of h.notes)) (moment_of g.A.Asker.seen g.A.Asker.words c.wait_for.new.self) c.wait_for.result (g.A.Asker.seen h.asker).replies refl m.1 m.0
    (subst (λ t. AwaitsTask t c.wait_for.result (moment_at (heap_of h) (g.A.Asker.seen c.reply.new.self) (g.A.Asker.words c.reply.new.self) (notes_of h.notes)) (moment_of g.A.Asker.seen g.A.Asker.words c.wait_for.new.self)) c.in-Ok.ensures c.wait_for.ensures.told)

pub returns-clause-did : goal.returns-clause-did
returns-clause-did g c =
    let h = c.args.self.now in
    let r = reply_refused (heap_of h) (g.A.Asker.seen h.asker) (g.A.Asker.seen c.reply.new.self) (g.A.Asker.words h.asker) (g.A.Asker.words c.reply.new.self) c.in-Err.ensures.words (notes_of h.notes) (g.A.Asker.fits h.asker) (g.A.Asker.fits c.reply.new.self) c.args.path c.args.task.now c.in-Err.stop (Err c.in-Err.stop) refl c.in-Err.ensures.replies in
    refused_asks (replies c.args.task.now) (path_in c.args.path) (moment_of g.A.Asker.seen g.A.Asker.words h) (moment_at (heap_of h) (g.A.Asker.seen c.reply.new.self) (g.A.Asker.words c.reply.new.self) (notes_of h.notes)) (moment_of g.A.Asker.seen g.A.Asker.words c.refuse.new.self) c.in-Err.stop c.refuse.result (g.A.Asker.words h.asker) r.2
    (subst (λ t. Refuses (asking (path_in c.args.path) (replies t)) c.in-Err.stop c.refuse.result (moment_at (heap_of h) (g.A.Asker.seen c.reply.new.self) (g.A.Asker.words c.reply.new.self) (notes_of h.notes)) (moment_of g.A.Asker.seen g.A.Asker.words c.refuse.new.self)) c.in-Ok.ensures c.refuse.ensures.told)
    (λ E pairs e. reply_lacks (g.A.Asker.seen h.asker).replies c.args.task.now r.0 (path_in c.args.path) (draws_in (moment_of g.A.Asker.seen g.A.Asker.words h).made) E pairs r.1 e)

pub returns-then-len-gt-MOST_UNITS-clause-later : goal.returns-then-len-gt-MOST_UNITS-clause-later
returns-then-len-gt-MOST_UNITS-clause-later g c = later_refl g.A.Asker.seen g.A.Asker.fits g.A.Asker.keeps g.A.Asker.tells_tasks g.A.Asker.tells_traces g.A.Asker.moment g.A.Asker.left_since g.met.A.Asker.keeps_refl _

pub returns-in_default-clause-later : goal.returns-in_default-clause-later
returns-in_default-clause-later g c = later_refl g.A.Asker.seen g.A.Asker.fits g.A.Asker.keeps g.A.Asker.tells_tasks g.A.Asker.tells_traces g.A.Asker.moment g.A.Asker.left_since g.met.A.Asker.keeps_refl _

pub returns-in-Ok-Some-clause-later : goal.returns-in-Ok-Some-clause-later
returns-in-Ok-Some-clause-later g c =
    let h = c.args.self.now in
    let e = c.in-Ok-Some.ensures in
    later_replied g.A.Asker.seen g.A.Asker.fits g.A.Asker.is_sound g.A.Asker.keeps g.A.Asker.tells_tasks g.A.Asker.tells_traces g.A.Asker.moment g.A.Asker.left_since g.met.A.Asker.now_is g.met.A.Asker.counts_now h _ c.args.path c.args.task.now c.in-Ok-Some.text c.in-Ok-Some.field-0 (answer (g.A.Asker.seen h.asker).replies c.args.task.now) c.in-Ok-Some.field-0-is e.replies e.keeps c.requires.open (c.requires.sound.asked.going c.requires.open) e.sound refl e.traces e.tasks

pub returns-in-Ok-None-clause-later : goal.returns-in-Ok-None-clause-later
returns-in-Ok-None-clause-later g c =
    let h = c.args.self.now in
    let e = c.in-Ok-None.ensures in
    let mid = record h { asker = c.reply.new.self } in
    later_trans g.A.Asker.seen g.A.Asker.fits g.A.Asker.keeps g.A.Asker.tells_tasks g.A.Asker.tells_traces g.A.Asker.moment g.A.Asker.left_since g.met.A.Asker.keeps_trans h mid c.wait_for.new.self
    (later_unreplied g.A.Asker.seen g.A.Asker.fits g.A.Asker.is_sound g.A.Asker.keeps g.A.Asker.tells_tasks g.A.Asker.tells_traces g.A.Asker.moment g.A.Asker.left_since g.met.A.Asker.now_is g.met.A.Asker.counts_now h mid c.args.path c.args.task.now c.in-Ok-None.field-0 (answer (g.A.Asker.seen h.asker).replies c.args.task.now) c.in-Ok-None.field-0-is e.replies e.keeps c.requires.open (c.requires.sound.asked.going c.requires.open) e.sound refl e.traces e.tasks)
    (later_still g.A.Asker.seen g.A.Asker.fits g.A.Asker.keeps g.A.Asker.tells_tasks g.A.Asker.tells_traces g.A.Asker.moment g.A.Asker.left_since g.met.A.Asker.keeps_refl mid c.wait_for.new.self c.wait_for.ensures.still)

pub returns-clause-later : goal.returns-clause-later
returns-clause-later g c =
    let h = c.args.self.now in
    let e = c.in-Err.ensures in
    let mid = record h { asker = c.reply.new.self } in
    later_reply_refused g.A.Asker.seen g.A.Asker.fits g.A.Asker.is_sound g.A.Asker.keeps g.A.Asker.tells_tasks g.A.Asker.tells_traces g.A.Asker.moment g.A.Asker.left_since g.met.A.Asker.now_is g.met.A.Asker.counts_now h mid c.refuse.new.self c.args.path c.args.task.now c.in-Err.stop (Asking c.args.path (question.Reply c.in-Ok.copy)) (answer (g.A.Asker.seen h.asker).replies c.args.task.now) refl (ap (λ (t : List ℕ). Asking c.args.path (question.Reply t)) c.in-Ok.ensures)
    e.replies e.keeps c.refuse.ensures.closes refl c.requires.open (c.requires.sound.asked.going c.requires.open) c.requires.sound.asked.sound e.no_board e.traces e.tasks
