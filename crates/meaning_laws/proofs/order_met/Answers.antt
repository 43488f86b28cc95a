-- The history is computed from its first run to its last.
use Rattle.std.specs.Prelude.{[], ◌∷◌}
use mathlib.Core.Path.{refl}
use Rattle.js_tree.specs.Eval.{begun, grew}
use Rattle.meaning_laws.specs.Opens.{opens}
use Rattle.meaning_laws.specs.Scopes.{first_answer, second_answer, posts_made, second_made}
use Rattle.meaning_laws.proofs.order_met.Goals as goal

pub returns : goal.returns
unfolding opens
returns c = (record { grown = grew (first_answer ∷ []) (grew {T = []} {R = []} (second_answer ∷ []) begun (posts_made, [], refl, refl)) (second_made, [], refl, refl); leaves = refl; ends = refl; clean = refl }, refl)
