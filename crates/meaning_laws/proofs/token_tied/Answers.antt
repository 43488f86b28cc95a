-- The law is proved over the definitions alone.
use Rattle.meaning_laws.proofs.Tied.{token_tied}
use Rattle.meaning_laws.proofs.token_tied.Goals as goal

pub returns : goal.returns
returns c = token_tied
