use Rattle.std.proofs.Common.{◌∙◌, ◌+◌, ap, refl, sym, arith}
use Rattle.eval_ops.specs.Run.{seen_of}
use Rattle.run_host.proofs.Sequence.{no_memory}
use Rattle.machine_host.specs.declared.guarded.Guarded.{Guarded}
use Rattle.machine_host.specs.Runs.{notes_of, moment_of}
use Rattle.ask_model.specs.Asker.{known_to}
use Rattle.machine_host.proofs.Opening.{fork_barred, not_here, fork_found, fork_entered, err_then, fork_exit}
use Rattle.machine_host.proofs.Goings.{still_counted, later_refl, later_still, later_found, later_passed}
use Rattle.machine_host.proofs.AskedRun.open_fork.Goals as goal

pub returns-then-in_once-clause-out : goal.returns-then-in_once-clause-out
returns-then-in_once-clause-out g c f = fork_barred f (moment_of g.A.Asker.seen g.A.Asker.words c.args.self.now) (sym c.in_once.ensures ∙ c.if-in_once.true)

pub returns-then-self-clause-out : goal.returns-then-self-clause-out
returns-then-self-clause-out g c f = no_memory

pub returns-in_err-path-clause-out : goal.returns-in_err-path-clause-out
returns-in_err-path-clause-out g c = fork_exit c.from_residual.result c.in_err-path.field-0.0 _ _ c.from_residual.ensures.1 c.in_err-path.ensures.lost

pub returns-in-Some-clause-out : goal.returns-in-Some-clause-out
returns-in-Some-clause-out g c f =
    fork_found g.A.Asker.seen g.A.Asker.words c.args.self.now c.take_index.new.self c.known.new.self c.in_ok-path.path c.in_ok-path.ensures.taken c.in_ok-path.ensures.asker c.in_ok-path.ensures.notes c.in-Here.ensures.asked c.in-Here.ensures.words (sym c.in_once.ensures ∙ c.if-in_once.false) _ refl
    c.in-Some.record.now c.in-Some.ensures c.diverged_from.result c.diverged_from.ensures.told f

pub returns-in_default : goal.returns-in_default
returns-in_default g c =
    let mid = record c.take_index.new.self { notes = record c.take_index.new.self.notes { forks = c.take_index.new.self.notes.forks + 1 } } in
    let e = fork_entered g.A.Asker.seen g.A.Asker.words c.args.self.now c.take_index.new.self c.known.new.self c.in_ok-path.path c.in_ok-path.ensures.taken c.in_ok-path.ensures.asker c.in_ok-path.ensures.notes c.known.ensures.asked c.known.ensures.words (sym c.in_once.ensures ∙ c.if-in_once.false) _ refl
    c.enter.new.self c.enter.ensures.asker (ap notes_of c.enter.ensures.notes) c.requires.sound.good.told (not_here (known_to (g.A.Asker.seen c.take_index.new.self.asker)) c.in_ok-path.path (λ e. c.in_default.not-Here (c.known.ensures.known ∙ sym e)))
    c.enter.result c.enter.ensures.ok (err_then c.enter.result (λ e. ap (λ (h : Guarded). seen_of h.machine) e) c.enter.ensures.same) c.enter.ensures.lost in
    record {
      opened = e.0;
      out = e.1;
      more = (let a = c.in_ok-path.ensures.more in let b = c.enter.ensures.more in omega (arith, a, b));
      thrown = e.2;
      sound = c.enter.ensures.sound;
      later = later_passed g.A.Asker.seen g.A.Asker.fits g.A.Asker.keeps g.A.Asker.tells_tasks g.A.Asker.tells_traces g.A.Asker.moment g.A.Asker.left_since g.met.A.Asker.keeps_refl g.met.A.Asker.keeps_trans c.args.self.now mid _ c.enter.new.self c.in_ok-path.path (still_counted c.args.self.now c.take_index.new.self mid.notes.forks c.in_ok-path.ensures.still) c.known.ensures.keeps c.known.ensures.asked c.known.ensures.moment c.known.ensures.traces c.in_ok-path.ensures.open refl c.enter.ensures.still;
    }

pub returns-then-in_once-clause-later : goal.returns-then-in_once-clause-later
returns-then-in_once-clause-later g c = later_refl g.A.Asker.seen g.A.Asker.fits g.A.Asker.keeps g.A.Asker.tells_tasks g.A.Asker.tells_traces g.A.Asker.moment g.A.Asker.left_since g.met.A.Asker.keeps_refl _

pub returns-then-self-clause-later : goal.returns-then-self-clause-later
returns-then-self-clause-later g c = later_refl g.A.Asker.seen g.A.Asker.fits g.A.Asker.keeps g.A.Asker.tells_tasks g.A.Asker.tells_traces g.A.Asker.moment g.A.Asker.left_since g.met.A.Asker.keeps_refl _

pub returns-in_err-path-clause-later : goal.returns-in_err-path-clause-later
returns-in_err-path-clause-later g c = later_still g.A.Asker.seen g.A.Asker.fits g.A.Asker.keeps g.A.Asker.tells_tasks g.A.Asker.tells_traces g.A.Asker.moment g.A.Asker.left_since g.met.A.Asker.keeps_refl c.args.self.now c.take_index.new.self c.in_err-path.ensures.still

pub returns-in-Some-clause-later : goal.returns-in-Some-clause-later
returns-in-Some-clause-later g c =
    let mid = record c.take_index.new.self { notes = record c.take_index.new.self.notes { forks = c.take_index.new.self.notes.forks + 1 } } in
    later_found g.A.Asker.seen g.A.Asker.fits g.A.Asker.keeps g.A.Asker.tells_tasks g.A.Asker.tells_traces g.A.Asker.moment g.A.Asker.left_since g.met.A.Asker.keeps_refl g.met.A.Asker.keeps_trans c.args.self.now mid _ c.in_ok-path.path (still_counted c.args.self.now c.take_index.new.self mid.notes.forks c.in_ok-path.ensures.still) c.in-Here.ensures.keeps c.in-Here.ensures.asked c.in-Here.ensures.moment c.in-Here.ensures.traces c.in_ok-path.ensures.open refl
