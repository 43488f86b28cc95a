use Rattle.std.proofs.Common.{◌≡◌, None, rules, arith, inr, ap, ◌∙◌}
use Rattle.turk_base.specs.Trace.{answer}
use Rattle.ask_model.proofs.Recorders.{answer_push}
use Rattle.ask_model.proofs.recorder.place.Goals as goal

pub returns-in-Ok-place_new-clause-placed : goal.returns-in-Ok-place_new-clause-placed
returns-in-Ok-place_new-clause-placed c =
    let tasks = c.args.desk.now.tasks in
    let none : answer tasks c.args.token.now ≡ None = search rules in
    let is = c.in-Ok-place_new.ensures.ok in
    (ap (λ l. answer l c.args.token.now) is ∙ answer_push tasks c.args.token.now c.args.text.now none, omega arith, inr (none, is))
