use Rattle.std.proofs.Common.{◌∙◌, ap, subst, sym, refl, inl, inr}
use Rattle.std.specs.Prelude.{Result, Err}
use Rattle.run_host.specs.Told.{GoesOn, told_flow}
use Rattle.run_host.specs.declared.Exit.{Exit}
use Rattle.run_host.specs.declared.Flow.{Flow}
use Rattle.value_cells.specs.Seen.{val_in}
use Rattle.eval_ops.specs.Run.{seen_of}
use Rattle.script_run.specs.Closes.{ClosesAt}
use Rattle.script_run.specs.Tells.{StopIs, by_asker, EndsBy}
use Rattle.script_run.proofs.Finishing.{at_root, goes, if_ok, if_err, made_front, caused_by}
use Rattle.script_run.proofs.ends.end_of.Goals as goal

pub returns-in-Ok-clause-ended : goal.returns-in-Ok-clause-ended
returns-in-Ok-clause-ended c = λ nu fits E u made w e h k.
    let σ = (seen_of c.args.machine.now).first nu in
    c.finished.ensures nu c.in-Ok.field-0 E u made σ w e (at_root σ (c.requires.scope nu (goes nu c.args.flow c.in-Ok.field-0 c.in-Ok.is)) (c.lacks_branch-absent.ensures nu)) h
    (subst (λ (r : Result Flow Exit). ClosesAt E u made (told_flow nu r) σ w e) c.in-Ok.is k)

pub returns-in-Err-Throw-clause-ended : goal.returns-in-Err-Throw-clause-ended
returns-in-Err-Throw-clause-ended c = if_ok c.thrown.result (λ end x nu fits E u made w e h k.
    let σ = (seen_of c.args.machine.now).first nu in
    x nu fits E u made w e (at_root σ (c.requires.scope nu (subst (λ (r : Result Flow Exit). GoesOn (told_flow nu r)) (sym (c.in-Err-Throw.is ∙ ap Err c.in-Err-Throw.field-0-is)) tt)) (c.lacks_branch-absent.ensures nu)) h
    (subst (λ (r : Result Flow Exit). ClosesAt E u made (told_flow nu r) σ w e) (c.in-Err-Throw.is ∙ ap Err c.in-Err-Throw.field-0-is) k)) c.thrown.ensures.ended

pub returns-in-Err-Throw-clause-stopped : goal.returns-in-Err-Throw-clause-stopped
returns-in-Err-Throw-clause-stopped c = if_err c.thrown.result (λ why x nu fits E u made w e k.
    let σ = (seen_of c.args.machine.now).first nu in
    subst (λ why. StopIs (EndsBy c.args.flow) E u made e why) (sym x)
    (made_front (val_in nu c.in-Err-Throw.value) (inl refl) (subst (λ (r : Result Flow Exit). ClosesAt E u made (told_flow nu r) σ w e) (c.in-Err-Throw.is ∙ ap Err c.in-Err-Throw.field-0-is) k))) c.thrown.ensures.stopped

pub returns-in-Err-Halted-clause-ended : goal.returns-in-Err-Halted-clause-ended
returns-in-Err-Halted-clause-ended c = if_ok c.halted.result (λ end x nu fits E u made w e h k.
    let σ = (seen_of c.args.machine.now).first nu in
    x σ w made e (λ z. at_root σ (c.requires.scope nu (subst (λ (r : Result Flow Exit). GoesOn (told_flow nu r)) (sym (c.in-Err-Halted.is ∙ ap Err c.in-Err-Halted.field-0-is)) z)) (c.lacks_branch-absent.ensures nu)) h
    (subst (λ (r : Result Flow Exit). ClosesAt E u made (told_flow nu r) σ w e) (c.in-Err-Halted.is ∙ ap Err c.in-Err-Halted.field-0-is) k)) c.halted.ensures.ended

pub returns-in-Err-Stopped-clause-stopped : goal.returns-in-Err-Stopped-clause-stopped
returns-in-Err-Stopped-clause-stopped c = λ nu fits E u made w e k.
    let σ = (seen_of c.args.machine.now).first nu in
    by_asker (inr (c.in-Err-Stopped.is ∙ ap Err c.in-Err-Stopped.field-0-is)) (subst (λ (r : Result Flow Exit). ClosesAt E u made (told_flow nu r) σ w e) (c.in-Err-Stopped.is ∙ ap Err c.in-Err-Stopped.field-0-is) k)

pub returns-in-Err-Halted-clause-stopped : goal.returns-in-Err-Halted-clause-stopped
returns-in-Err-Halted-clause-stopped c = if_err c.halted.result (λ why x nu fits E u made w e k.
    let σ = (seen_of c.args.machine.now).first nu in
    caused_by (λ w no. absurd no) (x E u σ w made e (subst (λ (r : Result Flow Exit). ClosesAt E u made (told_flow nu r) σ w e) (c.in-Err-Halted.is ∙ ap Err c.in-Err-Halted.field-0-is) k))) c.halted.ensures.stopped
