use Rattle.std.proofs.Common.{ap, ◌∙◌}
use Rattle.value_cells.specs.Seen.{val_in}
use Rattle.host_steps.specs.Answered.{answer_of}
use Rattle.value_rows.proofs.Given.{answered_ok, answered_err}
use Rattle.value_rows.proofs.sums.answered.Goals as goal

pub returns-in-Ok-clause-ran : goal.returns-in-Ok-clause-ran
returns-in-Ok-clause-ran c = λ m f e. answered_ok f c.in-Ok.value (λ nu l. e nu l ∙ ap (answer_of (val_in nu)) c.in-Ok.is)

pub returns-in-Err-clause-ran : goal.returns-in-Err-clause-ran
returns-in-Err-clause-ran c = λ m f e. answered_err f c.in-Err.why c.from.result c.from.ensures (λ nu l. e nu l ∙ ap (answer_of (val_in nu)) c.in-Err.is)
