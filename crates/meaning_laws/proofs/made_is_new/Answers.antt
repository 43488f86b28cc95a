use Rattle.meaning_laws.proofs.Whole.{made_is_new}
use Rattle.meaning_laws.proofs.made_is_new.Goals as goal

pub returns : goal.returns
returns c = made_is_new
