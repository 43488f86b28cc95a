use Rattle.std.specs.Prelude.{Ok}
use Rattle.std.proofs.Common.{sym, ap, ◌∙◌}
use Rattle.turk_base.specs.Values.{Number}
use Rattle.turk_base.specs.Operators.{bits_and}
use Rattle.value_rows.proofs.Given.{refused_on}
use Rattle.value_rows.proofs.operators.bit_and.Goals as goal

pub returns-in_err-m-clause-value : goal.returns-in_err-m-clause-value
returns-in_err-m-clause-value c = λ nu. c.in_err-m.ensures nu bits_and ∙ refused_on _ _ _ c.from_residual.ensures.1

pub returns-clause-value : goal.returns-clause-value
returns-clause-value c = λ nu. c.in_ok-m.ensures nu bits_and ∙ ap (λ n. Ok (Number n)) (sym c.and.ensures)
