-- The law is proved over the definitions alone.
use Rattle.meaning_laws.proofs.Tied.{answer_tied}
use Rattle.meaning_laws.proofs.answer_tied.Goals as goal

pub returns : goal.returns
returns c = answer_tied
