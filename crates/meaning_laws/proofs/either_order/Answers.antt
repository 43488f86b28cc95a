use mathlib.Core.Path.{refl}
use Rattle.meaning_laws.specs.Opens.{opens}
use Rattle.meaning_laws.proofs.either_order.Goals as goal

pub returns : goal.returns
unfolding opens
returns c = record { wait = (refl, refl, refl, refl, refl); second = (refl, refl, refl, refl, refl); then_first = (refl, refl, refl, refl, refl); first = (refl, refl, refl, refl, refl); then_second = (refl, refl, refl, refl, refl) }
