-- The law is proved over the definitions alone.
use Rattle.run_laws.proofs.Parting.{stops_begin}
use Rattle.run_laws.proofs.stops_begin.Goals as goal

pub returns : goal.returns
returns c = stops_begin
