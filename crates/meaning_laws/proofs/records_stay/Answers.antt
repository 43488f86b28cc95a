-- The law is proved over the definitions alone.
use Rattle.meaning_laws.proofs.Stopped.{records_stay}
use Rattle.meaning_laws.proofs.records_stay.Goals as goal

pub returns : goal.returns
returns c = records_stay
