use mathlib.Core.Path.{refl}
use Rattle.meaning_laws.specs.Opens.{opens}
use Rattle.meaning_laws.proofs.once_taken_back.Goals as goal

pub returns : goal.returns
unfolding opens
returns c = record { made = (refl, refl, refl, refl, refl); answered = (refl, refl, refl, refl, refl) }
