-- The law is proved over the definitions alone.
use Rattle.run_laws.proofs.Twice.{two_histories}
use Rattle.run_laws.proofs.two_histories.Goals as goal

pub returns : goal.returns
returns c = two_histories
