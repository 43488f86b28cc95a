use Rattle.std.proofs.Common.{refl, ap, ◌∙◌}
use Rattle.turk_base.specs.declared.Record.TheVariants as kept
use Rattle.ask_model.specs.Asker.{Seen, entry}
use Rattle.machine_host.specs.declared.Unmade.TheVariants.{Keeping}
use Rattle.machine_host.proofs.Goings.{later_refl, later_trans, later_known, later_made, later_refused, no_held, other_made, other_unmade, no_once}
use Rattle.machine_host.proofs.AskedRun.record_once.Goals as goal

pub returns-then-self-clause-later : goal.returns-then-self-clause-later
returns-then-self-clause-later g c = later_refl g.A.Asker.seen g.A.Asker.fits g.A.Asker.keeps g.A.Asker.tells_tasks g.A.Asker.tells_traces g.A.Asker.moment g.A.Asker.left_since g.met.A.Asker.keeps_refl _

pub returns-then-not-fits-clause-later : goal.returns-then-not-fits-clause-later
returns-then-not-fits-clause-later g c = later_refl g.A.Asker.seen g.A.Asker.fits g.A.Asker.keeps g.A.Asker.tells_tasks g.A.Asker.tells_traces g.A.Asker.moment g.A.Asker.left_since g.met.A.Asker.keeps_refl _

pub returns-in-Here-clause-later : goal.returns-in-Here-clause-later
returns-in-Here-clause-later g c = later_known g.A.Asker.seen g.A.Asker.fits g.A.Asker.keeps g.A.Asker.tells_tasks g.A.Asker.tells_traces g.A.Asker.moment g.A.Asker.left_since c.args.self.now _ c.args.path c.in-Here.ensures.keeps c.in-Here.ensures.asked c.in-Here.ensures.moment c.in-Here.ensures.traces c.if-self.false refl

pub returns-in-Ok-clause-later : goal.returns-in-Ok-clause-later
returns-in-Ok-clause-later g c =
    let h = c.args.self.now in
    let mid = record h { asker = c.known.new.self } in
    let new = record h { asker = c.once_done.new.self } in
    let e = c.in-Ok.ensures in
    later_trans g.A.Asker.seen g.A.Asker.fits g.A.Asker.keeps g.A.Asker.tells_tasks g.A.Asker.tells_traces g.A.Asker.moment g.A.Asker.left_since g.met.A.Asker.keeps_trans h mid new
    (later_known g.A.Asker.seen g.A.Asker.fits g.A.Asker.keeps g.A.Asker.tells_tasks g.A.Asker.tells_traces g.A.Asker.moment g.A.Asker.left_since h mid c.args.path c.known.ensures.keeps c.known.ensures.asked c.known.ensures.moment c.known.ensures.traces c.if-self.false refl)
    (later_made g.A.Asker.seen g.A.Asker.fits g.A.Asker.is_sound g.A.Asker.keeps g.A.Asker.tells_tasks g.A.Asker.tells_traces g.A.Asker.moment g.A.Asker.left_since g.met.A.Asker.now_is g.met.A.Asker.counts_now mid new (entry c.args.path (kept.Once c.args.gift)) e.keeps e.adds c.if-self.false (ap (λ (s : Seen). s.closed) c.known.ensures.asked ∙ c.requires.sound.asked.going c.if-self.false) e.sound refl e.traces
    (λ tells. other_made g.A.Asker.seen mid new (entry c.args.path (kept.Once c.args.gift)) (no_once c.args.path c.args.gift) (e.tasks tells)))

pub returns-in-Err-clause-later : goal.returns-in-Err-clause-later
returns-in-Err-clause-later g c =
    let h = c.args.self.now in
    let mid = record h { asker = c.known.new.self } in
    let done = record h { asker = c.once_done.new.self } in
    let e = c.in-Err.ensures in
    later_trans g.A.Asker.seen g.A.Asker.fits g.A.Asker.keeps g.A.Asker.tells_tasks g.A.Asker.tells_traces g.A.Asker.moment g.A.Asker.left_since g.met.A.Asker.keeps_trans h mid c.refuse.new.self
    (later_known g.A.Asker.seen g.A.Asker.fits g.A.Asker.keeps g.A.Asker.tells_tasks g.A.Asker.tells_traces g.A.Asker.moment g.A.Asker.left_since h mid c.args.path c.known.ensures.keeps c.known.ensures.asked c.known.ensures.moment c.known.ensures.traces c.if-self.false refl)
    (later_refused g.A.Asker.seen g.A.Asker.fits g.A.Asker.is_sound g.A.Asker.keeps g.A.Asker.tells_tasks g.A.Asker.tells_traces g.A.Asker.moment g.A.Asker.left_since g.met.A.Asker.now_is g.met.A.Asker.counts_now mid done c.refuse.new.self (entry c.args.path (kept.Once c.args.gift)) c.in-Err.stop (Keeping c.args.path c.args.gift) e.keeps e.adds c.refuse.ensures.closes refl c.if-self.false (ap (λ (s : Seen). s.closed) c.known.ensures.asked ∙ c.requires.sound.asked.going c.if-self.false) c.known.ensures.sound refl (λ d is. no_held d (Keeping c.args.path c.args.gift) c.in-Err.stop e.no_board is) e.traces
    (λ tells. other_unmade g.A.Asker.seen mid done c.refuse.new.self c.refuse.ensures.closes.asker (e.tasks tells)))
