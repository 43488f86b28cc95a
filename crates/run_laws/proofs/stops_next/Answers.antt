-- The law is proved over the definitions alone.
use Rattle.run_laws.proofs.Parting.{stops_next}
use Rattle.run_laws.proofs.stops_next.Goals as goal

pub returns : goal.returns
returns c = stops_next
