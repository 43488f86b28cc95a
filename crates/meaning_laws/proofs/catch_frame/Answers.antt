use mathlib.Core.Path.{refl}
use Rattle.meaning_laws.specs.Opens.{opens}
use Rattle.meaning_laws.proofs.catch_frame.Goals as goal

pub returns : goal.returns
unfolding opens
returns c = (refl, refl, refl)
