-- The measure of copying: each item of a list, and each value of fields, is smaller than the whole.
use Rattle.std.specs.Prelude.{ℕ, zero, suc, ◌+◌, ◌*◌, ◌<◌, ◌≤◌, ◌≡◌, List, [], ◌∷◌, length}
use Rattle.std.proofs.Common.{arith, get_or, sym, subst}
use Rattle.turk_base.specs.Data.{Data, DList, DFields, size, size_items, size_fields, items_of, fields_of}

pub get_or_le_items : (ds : List Data) (i : ℕ) (d : Data) → i < length ds → size (get_or ds i d) ≤ size_items (items_of ds)
unfolding size
get_or_le_items [] i d h = absurd (omega (arith, h))
get_or_le_items (e ∷ ds) zero d h = omega arith
get_or_le_items (e ∷ ds) (suc i) d h = omega (arith, get_or_le_items ds i d (omega (arith, h)))

pub item_falls : (ds : List Data) (i : ℕ) (d : Data) → i < length ds → d ≡ get_or ds i d → 2 * size d < 2 * size_items (items_of ds) + 1
item_falls ds i d h e =
    let small : size d ≤ size_items (items_of ds) = subst (λ x. size x ≤ size_items (items_of ds)) (sym e) (get_or_le_items ds i d h) in
    omega (arith, small)

pub get_or_le_fields : (fs : List (List ℕ × Data)) (i : ℕ) (f : List ℕ × Data) → i < length fs → size (get_or fs i f).1 ≤ size_fields (fields_of fs)
unfolding size
get_or_le_fields [] i f h = absurd (omega (arith, h))
get_or_le_fields (e ∷ fs) zero f h = omega arith
get_or_le_fields (e ∷ fs) (suc i) f h = omega (arith, get_or_le_fields fs i f (omega (arith, h)))

pub field_falls : (fs : List (List ℕ × Data)) (i : ℕ) (f : List ℕ × Data) → i < length fs → f ≡ get_or fs i f → 2 * size f.1 < 2 * size_fields (fields_of fs) + 1
field_falls fs i f h e =
    let small : size f.1 ≤ size_fields (fields_of fs) = subst (λ x. size x.1 ≤ size_fields (fields_of fs)) (sym e) (get_or_le_fields fs i f h) in
    omega (arith, small)

pub items_fall : (items : List Data) (d : Data) → d ≡ DList (items_of items) → 2 * size_items (items_of items) + 1 < 2 * size d
unfolding size
items_fall items d e = rw e (omega arith)

pub fields_fall : (fields : List (List ℕ × Data)) (d : Data) → d ≡ DFields (fields_of fields) → 2 * size_fields (fields_of fields) + 1 < 2 * size d
unfolding size
fields_fall fields d e = rw e (omega arith)
