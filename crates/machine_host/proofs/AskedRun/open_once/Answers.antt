use Rattle.std.proofs.Common.{◌≡◌, ◌∙◌, ap, refl, sym, subst, arith}
use Rattle.std.specs.Prelude.{Ok, Err}
use Rattle.eval_ops.specs.Run.{seen_of}
use Rattle.ask_model.specs.Asker.{known_to, record_in}
use Rattle.run_host.specs.Told.{exit_needs}
use Rattle.machine_host.specs.declared.guarded.Guarded.{Guarded}
use Rattle.machine_host.proofs.Opening.{not_here}
use Rattle.machine_host.proofs.Counted.{found_within, kept_sound, once_found, once_entered, once_not_entered, once_exit}
use Rattle.machine_host.proofs.Goings.{later_still, later_found, later_passed}
use Rattle.machine_host.proofs.AskedRun.open_once.Goals as goal

pub returns-in_err-path-clause-out : goal.returns-in_err-path-clause-out
returns-in_err-path-clause-out g c = once_exit c.from_residual.result c.in_err-path.field-0.0 _ _ c.from_residual.ensures.1 c.in_err-path.ensures.lost

pub once_kept-answer-requires : goal.once_kept-answer-requires
once_kept-answer-requires g c = record {
  within = found_within (known_to (g.A.Asker.seen c.count_once.new.self.asker)) (g.met.A.Asker.within c.count_once.new.self.asker c.in_ok-path.ensures.sound.asked.sound).trace.within c.in_ok-path.path c.in-Some.record.now
      (sym (c.in-Some.ensures ∙ ap (λ s. record_in (known_to s) s.asked) c.in-Here.ensures.asked));
}

pub returns-in-Ok-clause-kept : goal.returns-in-Ok-clause-kept
returns-in-Ok-clause-kept g c =
    once_found g.A.Asker.seen g.A.Asker.words c.args.self.now c.count_once.new.self c.known.new.self c.in_ok-path.path c.in_ok-path.ensures.counted c.in_ok-path.ensures.asker c.in-Here.ensures.asked c.in-Here.ensures.words
    c.in-Some.record.now c.in-Some.ensures (seen_of c.once_kept-answer.new.machine) c.in-Ok.ensures.stays (Ok c.in-Ok.value) c.in-Ok.ensures.gives

pub returns-in-Ok-clause-sound : goal.returns-in-Ok-clause-sound
returns-in-Ok-clause-sound g c = kept_sound g.A.Asker.is_sound g.A.Asker.refuses g.A.Asker.seen c.count_once.new.self _ c.in_ok-path.path c.in_ok-path.ensures.sound c.known.ensures.sound c.in-Here.ensures.asked refl refl refl c.in-Ok.ensures.stays c.known-in-Some.ensures

pub returns-in-Some-clause-out : goal.returns-in-Some-clause-out
returns-in-Some-clause-out g c =
    once_found g.A.Asker.seen g.A.Asker.words c.args.self.now c.count_once.new.self c.known.new.self c.in_ok-path.path c.in_ok-path.ensures.counted c.in_ok-path.ensures.asker c.in-Here.ensures.asked c.in-Here.ensures.words
    c.in-Some.record.now c.in-Some.ensures (seen_of c.once_kept-answer.new.machine) c.in-Err.ensures.stays (Err c.in-Err.exit) c.in-Err.ensures.gives

pub returns-in-Some-clause-sound : goal.returns-in-Some-clause-sound
returns-in-Some-clause-sound g c = kept_sound g.A.Asker.is_sound g.A.Asker.refuses g.A.Asker.seen c.count_once.new.self _ c.in_ok-path.path c.in_ok-path.ensures.sound c.known.ensures.sound c.in-Here.ensures.asked refl refl refl c.in-Err.ensures.stays c.known-in-Some.ensures

pub returns-in-Ok-enter : goal.returns-in-Ok-enter
returns-in-Ok-enter g c = record {
  kept = tt;
  opened = λ e. once_entered g.A.Asker.seen g.A.Asker.words c.args.self.now c.count_once.new.self c.known.new.self c.in_ok-path.path c.in_ok-path.ensures.counted c.in_ok-path.ensures.asker c.known.ensures.asked c.known.ensures.words
      c.enter.new.self c.in-Ok-enter.ensures.asker c.in-Ok-enter.ensures.notes c.requires.sound.good.told (not_here (known_to (g.A.Asker.seen c.count_once.new.self.asker)) c.in_ok-path.path (λ e. c.in_default.not-Here (c.known.ensures.known ∙ sym e))) c.in-Ok-enter.ensures.ok;
  out = tt;
  more = (let a = c.in_ok-path.ensures.more in let b = c.in-Ok-enter.ensures.more in omega (arith, a, b));
  exists = omega arith;
  thrown = tt;
  sound = c.in-Ok-enter.ensures.sound;
  later = later_passed g.A.Asker.seen g.A.Asker.fits g.A.Asker.keeps g.A.Asker.tells_tasks g.A.Asker.tells_traces g.A.Asker.moment g.A.Asker.left_since g.met.A.Asker.keeps_refl g.met.A.Asker.keeps_trans c.args.self.now c.count_once.new.self _ c.enter.new.self c.in_ok-path.path c.in_ok-path.ensures.still c.known.ensures.keeps c.known.ensures.asked c.known.ensures.moment c.known.ensures.traces c.in_ok-path.ensures.open refl c.in-Ok-enter.ensures.still;
}

pub returns : goal.returns
returns g c = record {
  kept = tt;
  opened = tt;
  out = once_not_entered g.A.Asker.seen g.A.Asker.words c.args.self.now c.count_once.new.self c.known.new.self c.in_ok-path.path c.in_ok-path.ensures.counted c.in_ok-path.ensures.asker c.known.ensures.asked c.known.ensures.words
      c.enter.new.self c.in-Err-enter.ensures.asker c.in-Err-enter.ensures.notes (ap (λ (h : Guarded). seen_of h.machine) c.in-Err-enter.ensures.same) c.in-Err-enter.exit c.in-Err-enter.ensures.lost;
  more = (let a = c.in_ok-path.ensures.more in let b = c.in-Err-enter.ensures.more in omega (arith, a, b));
  exists = tt;
  thrown = subst (λ y. exit_needs y ≡ 0) (sym c.in-Err-enter.ensures.lost) refl;
  sound = c.in-Err-enter.ensures.sound;
  later = later_passed g.A.Asker.seen g.A.Asker.fits g.A.Asker.keeps g.A.Asker.tells_tasks g.A.Asker.tells_traces g.A.Asker.moment g.A.Asker.left_since g.met.A.Asker.keeps_refl g.met.A.Asker.keeps_trans c.args.self.now c.count_once.new.self _ c.enter.new.self c.in_ok-path.path c.in_ok-path.ensures.still c.known.ensures.keeps c.known.ensures.asked c.known.ensures.moment c.known.ensures.traces c.in_ok-path.ensures.open refl c.in-Err-enter.ensures.still;
}

pub returns-in_err-path-clause-later : goal.returns-in_err-path-clause-later
returns-in_err-path-clause-later g c = later_still g.A.Asker.seen g.A.Asker.fits g.A.Asker.keeps g.A.Asker.tells_tasks g.A.Asker.tells_traces g.A.Asker.moment g.A.Asker.left_since g.met.A.Asker.keeps_refl c.args.self.now c.count_once.new.self c.in_err-path.ensures.still

pub returns-in-Ok-clause-later : goal.returns-in-Ok-clause-later
returns-in-Ok-clause-later g c = later_found g.A.Asker.seen g.A.Asker.fits g.A.Asker.keeps g.A.Asker.tells_tasks g.A.Asker.tells_traces g.A.Asker.moment g.A.Asker.left_since g.met.A.Asker.keeps_refl g.met.A.Asker.keeps_trans c.args.self.now c.count_once.new.self _ c.in_ok-path.path c.in_ok-path.ensures.still c.in-Here.ensures.keeps c.in-Here.ensures.asked c.in-Here.ensures.moment c.in-Here.ensures.traces c.in_ok-path.ensures.open refl

pub returns-in-Some-clause-later : goal.returns-in-Some-clause-later
returns-in-Some-clause-later g c = later_found g.A.Asker.seen g.A.Asker.fits g.A.Asker.keeps g.A.Asker.tells_tasks g.A.Asker.tells_traces g.A.Asker.moment g.A.Asker.left_since g.met.A.Asker.keeps_refl g.met.A.Asker.keeps_trans c.args.self.now c.count_once.new.self _ c.in_ok-path.path c.in_ok-path.ensures.still c.in-Here.ensures.keeps c.in-Here.ensures.asked c.in-Here.ensures.moment c.in-Here.ensures.traces c.in_ok-path.ensures.open refl
