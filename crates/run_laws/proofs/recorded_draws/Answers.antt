-- The law is proved over the definitions alone.
use Rattle.run_laws.proofs.Parting.{recorded_draws}
use Rattle.run_laws.proofs.recorded_draws.Goals as goal

pub returns : goal.returns
returns c = recorded_draws
