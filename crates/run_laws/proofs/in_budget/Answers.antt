-- The law is proved over the definitions alone.
use Rattle.run_laws.proofs.Budget.{in_budget}
use Rattle.run_laws.proofs.in_budget.Goals as goal

pub returns : goal.returns
returns c = in_budget
