use Rattle.std.specs.Prelude.{Ok, not}
use Rattle.std.proofs.Common.{ap, ◌∙◌}
use Rattle.turk_base.specs.Values.{Truth}
use Rattle.turk_base.specs.Operators.{and_then}
use Rattle.value_rows.proofs.Given.{refused_on}
use Rattle.value_rows.proofs.comparisons.differs.Goals as goal

pub returns-in_err-holds-clause-value : goal.returns-in_err-holds-clause-value
returns-in_err-holds-clause-value g c = λ nu l. ap (λ r. and_then r (λ b. Ok (Truth (not b)))) (c.in_err-holds.ensures nu l) ∙ refused_on _ _ _ c.from_residual.ensures.1

pub returns-clause-value : goal.returns-clause-value
returns-clause-value g c = λ nu l. ap (λ r. and_then r (λ b. Ok (Truth (not b)))) (c.in_ok-holds.ensures nu l)
