use mathlib.Core.Path.{refl}
use Rattle.meaning_laws.specs.Opens.{opens}
use Rattle.meaning_laws.proofs.choice_diverges.Goals as goal

pub returns : goal.returns
unfolding opens
returns c = record { waits = (refl, refl, refl, refl, refl); diverges = (refl, refl, refl, refl, refl) }
