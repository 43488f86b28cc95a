use mathlib.Core.Path.{refl}
use Rattle.meaning_laws.specs.Opens.{opens}
use Rattle.meaning_laws.proofs.two_draws.Goals as goal

pub returns : goal.returns
unfolding opens
returns c = record { words = (refl, refl, refl, refl, refl); undrawn = (refl, refl, refl, refl, refl) }
