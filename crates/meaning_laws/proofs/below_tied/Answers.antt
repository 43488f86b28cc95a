-- The law is proved over the definitions alone.
use Rattle.meaning_laws.proofs.Tied.{below_tied}
use Rattle.meaning_laws.proofs.below_tied.Goals as goal

pub returns : goal.returns
returns c = below_tied
