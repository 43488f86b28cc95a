use Rattle.std.proofs.Common.{refl, sym, ap, ◌∙◌, inl}
use Rattle.turk_base.specs.Told.{verdict_told}
use Rattle.run_host.specs.Told.{told_flow}
use Rattle.run_host.proofs.Moments.{fits_before}
use Rattle.eval_ops.specs.Run.{seen_of}
use Rattle.ask_model.specs.declared.AskStop.TheVariants.{Memory}
use Rattle.machine_host.proofs.Turns.{naming}
use Rattle.script_run.specs.Tells.{IsStopped, EndsBy}
use Rattle.script_run.proofs.Telling.{memory_stops, stops_told, err_exit}
use Rattle.script_run.proofs.ends.told.Goals as goal

pub returns-in_err-end-clause-stopped : goal.returns-in_err-end-clause-stopped
returns-in_err-end-clause-stopped c = λ u S session old new fuel come.
    err_exit (λ why. IsStopped (EndsBy c.args.flow) u S session old new fuel why) c.from_residual.result c.in_err-end.field-0.0 c.from_residual.ensures.1
    (stops_told (EndsBy c.args.flow) u S session old new fuel c.args.forks c.args.waits.items (seen_of c.args.machine.now) c.args.flow c.in_err-end.field-0.0 come
    c.in_err-end.ensures.stopped)

pub returns-in-Ok-clause-told : goal.returns-in-Ok-clause-told
returns-in-Ok-clause-told c = λ u S session old new fuel come E kn.
    let n = naming (seen_of c.end_of.new.machine).names in
    let before = fits_before c.in_ok-end.ensures.grows n.1 in
    let h = c.in_ok-end.ensures.ended n.0 n.1 E u _ _ _ refl (come n.0 before E kn) in
    record {
      ended = h.is;
      output = c.in-Ok.ensures.output n.0 ∙ sym h.text;
      verdict = c.in-Ok.ensures.verdict n.0 before ∙ ap verdict_told (sym h.verdict);
      forks = sym h.forks;
      made_are = sym h.made_are;
    }

pub returns-in-Err-clause-stopped : goal.returns-in-Err-clause-stopped
returns-in-Err-clause-stopped c = λ u S session old new fuel come. stops_told (EndsBy c.args.flow) u S session old new fuel c.args.forks c.args.waits.items (seen_of c.args.machine.now) c.args.flow Memory come
    (λ nu fits E u made w e k. memory_stops ((seen_of c.args.machine.now).first nu) w (told_flow nu c.args.flow) (inl refl) k)
