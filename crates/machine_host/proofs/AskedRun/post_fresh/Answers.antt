use Rattle.std.proofs.Common.{refl, subst, sym, ap, ℕ, List}
use Rattle.turk_base.specs.Names.{path_in}
use Rattle.turk_base.specs.Asks.{posts}
use Rattle.machine_host.specs.Runs.{heap_of, notes_of, moment_of}
use Rattle.run_host.specs.Moment.{asking, draws_in}
use Rattle.machine_host.specs.Asking.{Refuses}
use Rattle.machine_host.specs.Moments.{moment_at}
use Rattle.machine_host.proofs.Fresh.{none_made, none_exit, as_before, refused_asks, post_asks, post_lacks}
use Rattle.ask_model.specs.Asker.{entry}
use Rattle.turk_base.specs.declared.Record.TheVariants as kept
use Rattle.machine_host.specs.declared.Unmade.TheVariants.{Asking}
use Rattle.machine_host.specs.declared.Question.TheVariants as question
use Rattle.machine_host.proofs.Goings.{later_refl, later_made, later_refused, held_post, post_made, post_unmade}
use Rattle.machine_host.proofs.AskedRun.post_fresh.Goals as goal

pub returns-then-len-gt-MOST_UNITS-clause-did : goal.returns-then-len-gt-MOST_UNITS-clause-did
returns-then-len-gt-MOST_UNITS-clause-did g c = none_made _ _ refl

pub returns-then-len-gt-MOST_UNITS-2-clause-did : goal.returns-then-len-gt-MOST_UNITS-2-clause-did
returns-then-len-gt-MOST_UNITS-2-clause-did g c = none_made _ _ refl

pub returns-in_default-clause-did : goal.returns-in_default-clause-did
returns-in_default-clause-did g c = none_made _ _ refl

pub returns-in_err-token-clause-did : goal.returns-in_err-token-clause-did
returns-in_err-token-clause-did g c = none_exit _ c.from_residual.result c.in_err-token.field-0.0 c.from_residual.ensures.1 c.in_err-token.ensures.lost

pub returns-in-Ok-post-clause-did : goal.returns-in-Ok-post-clause-did
returns-in-Ok-post-clause-did g c =
    let h = c.args.self.now in
    post_asks (heap_of h) (g.A.Asker.seen h.asker) (g.A.Asker.seen c.post.new.self) (g.A.Asker.words h.asker) (g.A.Asker.words c.post.new.self) (notes_of h.notes) (g.A.Asker.fits h.asker) (g.A.Asker.fits c.post.new.self) c.args.text.now c.args.path c.in_ok-token.token c.in-Ok-post.ensures.adds c.in-Ok-post.ensures.words c.in_ok-token.ensures.ok

pub returns-in-Err-clause-did : goal.returns-in-Err-clause-did
returns-in-Err-clause-did g c =
    let h = c.args.self.now in
    let a = c.in-Err.ensures.adds in
    refused_asks (posts c.args.text.now) (path_in c.args.path) (moment_of g.A.Asker.seen g.A.Asker.words h) _ (moment_of g.A.Asker.seen g.A.Asker.words c.refuse.new.self) c.in-Err.stop c.refuse.result (g.A.Asker.words c.post.new.self)
    (as_before (heap_of h) (g.A.Asker.seen h.asker) (g.A.Asker.seen c.post.new.self) (g.A.Asker.words h.asker) (g.A.Asker.words c.post.new.self) (notes_of h.notes) a.stays.trace a.stays.replies a.made)
    (subst (λ t. Refuses (asking (path_in c.args.path) (posts t)) c.in-Err.stop c.refuse.result (moment_at (heap_of h) (g.A.Asker.seen c.post.new.self) (g.A.Asker.words c.post.new.self) (notes_of h.notes)) (moment_of g.A.Asker.seen g.A.Asker.words c.refuse.new.self)) c.in-Ok.ensures c.refuse.ensures.told)
    (λ E su. post_lacks c.args.text.now (path_in c.args.path) (draws_in (moment_of g.A.Asker.seen g.A.Asker.words h).made) E)

pub returns-then-len-gt-MOST_UNITS-clause-later : goal.returns-then-len-gt-MOST_UNITS-clause-later
returns-then-len-gt-MOST_UNITS-clause-later g c = later_refl g.A.Asker.seen g.A.Asker.fits g.A.Asker.keeps g.A.Asker.tells_tasks g.A.Asker.tells_traces g.A.Asker.moment g.A.Asker.left_since g.met.A.Asker.keeps_refl _

pub returns-in_err-token-clause-later : goal.returns-in_err-token-clause-later
returns-in_err-token-clause-later g c = later_refl g.A.Asker.seen g.A.Asker.fits g.A.Asker.keeps g.A.Asker.tells_tasks g.A.Asker.tells_traces g.A.Asker.moment g.A.Asker.left_since g.met.A.Asker.keeps_refl _

pub returns-then-len-gt-MOST_UNITS-2-clause-later : goal.returns-then-len-gt-MOST_UNITS-2-clause-later
returns-then-len-gt-MOST_UNITS-2-clause-later g c = later_refl g.A.Asker.seen g.A.Asker.fits g.A.Asker.keeps g.A.Asker.tells_tasks g.A.Asker.tells_traces g.A.Asker.moment g.A.Asker.left_since g.met.A.Asker.keeps_refl _

pub returns-in_default-clause-later : goal.returns-in_default-clause-later
returns-in_default-clause-later g c = later_refl g.A.Asker.seen g.A.Asker.fits g.A.Asker.keeps g.A.Asker.tells_tasks g.A.Asker.tells_traces g.A.Asker.moment g.A.Asker.left_since g.met.A.Asker.keeps_refl _

pub returns-in-Ok-post-clause-later : goal.returns-in-Ok-post-clause-later
returns-in-Ok-post-clause-later g c =
    let h = c.args.self.now in
    let e = c.in-Ok-post.ensures in
    later_made g.A.Asker.seen g.A.Asker.fits g.A.Asker.is_sound g.A.Asker.keeps g.A.Asker.tells_tasks g.A.Asker.tells_traces g.A.Asker.moment g.A.Asker.left_since g.met.A.Asker.now_is g.met.A.Asker.counts_now h _ (entry c.args.path (kept.Post c.args.text.now)) e.keeps e.adds c.requires.open (c.requires.sound.asked.going c.requires.open) e.sound refl e.traces
    (λ tells. post_made g.A.Asker.seen h _ c.args.path c.in_ok-token.token c.args.text.now c.in_ok-token.ensures.ok (e.tasks tells))

pub returns-in-Err-clause-later : goal.returns-in-Err-clause-later
returns-in-Err-clause-later g c =
    let h = c.args.self.now in
    let e = c.in-Err.ensures in
    let mid = record h { asker = c.post.new.self } in
    let unmade = Asking c.args.path (question.Post c.in-Ok.copy) in
    later_refused g.A.Asker.seen g.A.Asker.fits g.A.Asker.is_sound g.A.Asker.keeps g.A.Asker.tells_tasks g.A.Asker.tells_traces g.A.Asker.moment g.A.Asker.left_since g.met.A.Asker.now_is g.met.A.Asker.counts_now h mid c.refuse.new.self (entry c.args.path (kept.Post c.args.text.now)) c.in-Err.stop unmade e.keeps e.adds c.refuse.ensures.closes refl c.requires.open (c.requires.sound.asked.going c.requires.open) c.requires.sound.asked.sound
    (ap (λ (t : List ℕ). entry c.args.path (kept.Post t)) (sym c.in-Ok.ensures)) (λ d is. held_post d c.args.path c.args.text.now unmade c.in-Err.stop (ap (λ (t : List ℕ). Asking c.args.path (question.Post t)) c.in-Ok.ensures) e.held is) e.traces
    (λ tells. post_unmade g.A.Asker.seen h mid c.refuse.new.self c.args.path c.in_ok-token.token c.args.text.now c.in-Err.stop unmade c.refuse.ensures.closes refl (ap (λ (t : List ℕ). Asking c.args.path (question.Post t)) c.in-Ok.ensures) c.in_ok-token.ensures.ok e.adds.stays (e.tasks tells))
