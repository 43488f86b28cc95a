use mathlib.Core.Path.{refl}
use Rattle.meaning_laws.specs.Opens.{opens}
use Rattle.meaning_laws.proofs.other_record.Goals as goal

pub returns : goal.returns
unfolding opens
returns c = record { kind = (refl, refl, refl, refl, refl); text = (refl, refl, refl, refl, refl); below = (refl, refl, refl, refl, refl); fork = (refl, refl, refl, refl, refl) }
