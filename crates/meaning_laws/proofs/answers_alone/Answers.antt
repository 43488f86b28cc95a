use Rattle.meaning_laws.proofs.Parts.{answers_alone}
use Rattle.meaning_laws.proofs.answers_alone.Goals as goal

pub returns : goal.returns
returns c = answers_alone
