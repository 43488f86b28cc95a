-- A path's beginning as a test on the first items.
use Rattle.std.specs.Prelude.{ℕ, ◌≡◌, refl, ◌&&◌, ◌==◌, List, [], ◌∷◌, take, length, nat_eq}
use Rattle.std.specs.Cmp.Lexicographic.{pointwise}
use Rattle.std.proofs.Common.{ap}
use Rattle.turk_base.specs.Trace.{begins}

pub begins_take : (p q : List ℕ) → pointwise nat_eq p (take (length p) q) ≡ begins p q
begins_take [] q = refl
begins_take (i ∷ p) [] = refl
begins_take (i ∷ p) (j ∷ q) = ap (λ b. (i == j) && b) (begins_take p q)
