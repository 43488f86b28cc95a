-- The law is proved over the definitions alone.
use Rattle.run_laws.proofs.There.{records_there}
use Rattle.run_laws.proofs.records_there.Goals as goal

pub returns : goal.returns
returns c = records_there
