-- The law is proved over the definitions alone.
use Rattle.run_laws.proofs.Mirror.{waits_again}
use Rattle.run_laws.proofs.waits_again.Goals as goal

pub returns : goal.returns
returns c = waits_again
