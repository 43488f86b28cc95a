-- The law is proved over the definitions alone.
use Rattle.meaning_laws.proofs.Stopped.{stops_undrawn}
use Rattle.meaning_laws.proofs.stops_undrawn.Goals as goal

pub returns : goal.returns
returns c = stops_undrawn
