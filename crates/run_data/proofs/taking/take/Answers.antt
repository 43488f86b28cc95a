use Rattle.turk_base.specs.Steps.{taking}
use Rattle.run_data.proofs.taking.take.Goals as goal

pub returns-clause-did : goal.returns-clause-did
unfolding taking
returns-clause-did c = c.take_value.ensures.did
