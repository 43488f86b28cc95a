use Rattle.std.proofs.Common.{sym, ap, ◌∙◌}
use Rattle.turk_base.specs.Operators.{quotient, number_or_refused}
use Rattle.value_rows.proofs.Given.{refused_on}
use Rattle.value_rows.proofs.operators.quotient.Goals as goal

pub returns-in_err-m-clause-value : goal.returns-in_err-m-clause-value
returns-in_err-m-clause-value c = λ nu. c.in_err-m.ensures nu quotient ∙ refused_on _ _ _ c.from_residual.ensures.1

pub returns-clause-value : goal.returns-clause-value
returns-clause-value c = λ nu. c.in_ok-m.ensures nu quotient ∙ ap number_or_refused (sym c.div.ensures) ∙ c.number_or_not_whole.ensures.value nu
