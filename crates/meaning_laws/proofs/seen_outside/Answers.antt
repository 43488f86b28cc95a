use mathlib.Core.Path.{refl}
use Rattle.meaning_laws.specs.Opens.{opens}
use Rattle.meaning_laws.proofs.seen_outside.Goals as goal

pub returns : goal.returns
unfolding opens
returns c = record { before = (refl, refl, refl, refl, refl); after = (refl, refl, refl, refl, refl); within = (refl, refl, refl, refl, refl); shape = (refl, refl, refl, refl, refl) }
