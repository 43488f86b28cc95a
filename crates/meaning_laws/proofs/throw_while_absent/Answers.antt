use mathlib.Core.Path.{refl}
use Rattle.meaning_laws.specs.Opens.{opens}
use Rattle.meaning_laws.proofs.throw_while_absent.Goals as goal

pub returns : goal.returns
unfolding opens
returns c = record { branch = (refl, refl, refl, refl, refl); script = (refl, refl, refl, refl, refl) }
