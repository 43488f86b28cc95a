-- Texts that are looked through unit by unit.
use Rattle.std.proofs.Common.{◌≡◌, refl, ap, ℕ, suc, nat_eq, ◌&&◌, [], ◌∷◌, length, take, true, cond, Some, None}
use Rattle.std.specs.Cmp.Lexicographic.{pointwise}
use Rattle.turk_base.specs.Names.{Units}
use Rattle.turk_base.specs.BuiltIns as spec

pub begins_is : (u t : Units) → pointwise nat_eq u (take (length u) t) ≡ spec.begins u t
begins_is [] t = refl
begins_is (x ∷ xs) [] = refl
begins_is (x ∷ xs) (y ∷ ys) = ap (λ b. nat_eq x y && b) (begins_is xs ys)

-- the part stands here
pub place_here : (u t : Units) (at : ℕ) → spec.begins u t ≡ true → spec.place_from u t at ≡ Some at
place_here u [] at e = ap (λ b. cond b (Some at) None) e
place_here u (x ∷ xs) at e = ap (λ b. cond b (Some at) (spec.place_from u xs (suc at))) e
