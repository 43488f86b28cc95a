-- The law is proved over the definitions alone.
use Rattle.meaning_laws.proofs.Stopped.{calls_passed}
use Rattle.meaning_laws.proofs.calls_passed.Goals as goal

pub returns : goal.returns
returns c = calls_passed
