-- The law is proved over the definitions alone.
use Rattle.meaning_laws.proofs.Tied.{find_tied}
use Rattle.meaning_laws.proofs.find_tied.Goals as goal

pub returns : goal.returns
returns c = find_tied
