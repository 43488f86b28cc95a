use mathlib.Core.Path.{refl}
use Rattle.meaning_laws.specs.Opens.{opens}
use Rattle.meaning_laws.proofs.too_long_index.Goals as goal

pub returns : goal.returns
unfolding opens
returns c = (refl, refl, refl)
