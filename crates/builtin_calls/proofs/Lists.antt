-- Values of a list by place.
use Rattle.std.proofs.Common.{◌≡◌, ◌∙◌, sym, ap, ℕ, zero, suc, ◌+◌, ◌<◌, ◌≤◌, List, [], ◌∷◌, length, get_or, map, drop, arith, add-one, drop-cons}
use Rattle.std.proofs.Math.ListN.{drop_of_length-le}
use Rattle.value_cells.specs.declared.Value.{Value}
use Rattle.value_cells.specs.Needs.{needs, all_needs}

-- what is left of a list begins with its next item
pub map_next : {A B : Type 0} (f : A → B) (xs : List A) (i : ℕ) (x : A) → i < length xs → x ≡ get_or xs i x → map f (drop i xs) ≡ f x ∷ map f (drop (i + 1) xs)
map_next f xs i x h e = ap (map f) (drop-cons xs i x h) ∙ (λ j. f (sym e j) ∷ map f (drop (sym (add-one i) j) xs))

pub map_none : {A B : Type 0} (f : A → B) (xs : List A) (i : ℕ) → length xs ≤ i → map f (drop i xs) ≡ []
map_none f xs i h = ap (map f) (drop_of_length-le xs h)

pub needs_at : (vs : List Value) (i : ℕ) (v : Value) → i < length vs → v ≡ get_or vs i v → needs v ≤ all_needs vs
needs_at [] i v h e = absurd (omega arith)
needs_at (w ∷ vs) zero v h e = let l : needs v ≡ needs w = ap needs e in omega (arith, l)
needs_at (w ∷ vs) (suc i) v h e = let l = needs_at vs i v (omega arith) e in omega (arith, l)
