use Rattle.meaning_laws.proofs.Whole.{fuel_falls}
use Rattle.meaning_laws.proofs.fuel_falls.Goals as goal

pub returns : goal.returns
returns c = fuel_falls
