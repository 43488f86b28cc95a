use Rattle.std.specs.Prelude.{Ok}
use Rattle.std.proofs.Common.{sym, ap, ◌∙◌}
use Rattle.turk_base.specs.Values.{Number}
use Rattle.turk_base.specs.Operators.{shift_right_unsigned}
use Rattle.value_rows.proofs.Given.{refused_on}
use Rattle.value_rows.proofs.operators.shift_right_zero.Goals as goal

pub returns-in_err-m-clause-value : goal.returns-in_err-m-clause-value
returns-in_err-m-clause-value c = λ nu. c.in_err-m.ensures nu shift_right_unsigned ∙ refused_on _ _ _ c.from_residual.ensures.1

pub returns-clause-value : goal.returns-clause-value
returns-clause-value c = λ nu. c.in_ok-m.ensures nu shift_right_unsigned ∙ ap (λ n. Ok (Number n)) (sym c.ushr.ensures)
