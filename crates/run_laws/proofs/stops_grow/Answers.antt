-- The law is proved over the definitions alone.
use Rattle.run_laws.proofs.Parting.{stops_grow}
use Rattle.run_laws.proofs.stops_grow.Goals as goal

pub returns : goal.returns
returns c = stops_grow
