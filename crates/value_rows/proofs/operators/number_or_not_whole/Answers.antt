use Rattle.std.proofs.Common.{ap}
use Rattle.turk_base.specs.Operators.{number_or_refused}
use Rattle.value_rows.proofs.operators.number_or_not_whole.Goals as goal

pub returns-in-Some-clause-value : goal.returns-in-Some-clause-value
returns-in-Some-clause-value c = λ nu. ap number_or_refused c.in-Some.is

pub returns-in-None-clause-value : goal.returns-in-None-clause-value
returns-in-None-clause-value c = λ nu. ap number_or_refused c.in-None.is
