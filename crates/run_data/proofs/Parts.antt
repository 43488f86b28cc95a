-- The parts of plain data, one after another.
use Rattle.std.proofs.Common.{◌≡◌, refl, ap, sym, ◌∙◌, subst, ℕ, zero, suc, ◌<◌, ◌≤◌, List, [], ◌∷◌, length, Some, slice_get, get_or, arith}
use Rattle.std.proofs.lemmas.Option.{slice_get-get_or}
use Rattle.turk_base.specs.Data.{Data, DList, DFields, items_of, fields_of, nesting, nesting_items, nesting_fields}
use Rattle.value_cells.specs.declared.Value.{Value}
use Rattle.value_cells.specs.Needs.{needs, all_needs}
use Rattle.run_data.specs.Short.{many, IsShort, AreItemsShort, AreFieldsShort}

-- what stands at a place
pub read_at : {A : Type 0} (xs : List A) (i : ℕ) (x : A) → i < length xs → x ≡ get_or xs i x → slice_get xs i ≡ Some x
read_at xs i x h is = slice_get-get_or xs i x h ∙ ap Some (sym is)

pub items_short_at : (ds : List Data) (i : ℕ) (x : Data) → slice_get ds i ≡ Some x → AreItemsShort (items_of ds) → IsShort x
unfolding IsShort AreItemsShort
items_short_at [] i x e h = cc
items_short_at (d ∷ ds) zero x e h = let q : d ≡ x = cc in subst IsShort q h.0
items_short_at (d ∷ ds) (suc i) x e h = items_short_at ds i x e h.1

pub items_nesting_at : (ds : List Data) (i : ℕ) (x : Data) → slice_get ds i ≡ Some x → nesting x ≤ nesting_items (items_of ds)
unfolding nesting nesting_items
items_nesting_at [] i x e = cc
items_nesting_at (d ∷ ds) zero x e = let q : d ≡ x = cc in omega (arith, ap nesting q)
items_nesting_at (d ∷ ds) (suc i) x e = let h = items_nesting_at ds i x e in omega (arith, h)

pub fields_short_at : (fs : List (List ℕ × Data)) (i : ℕ) (f : List ℕ × Data) → slice_get fs i ≡ Some f → AreFieldsShort (fields_of fs) → IsShort f.1
unfolding IsShort AreFieldsShort
fields_short_at [] i x e h = cc
fields_short_at (f ∷ fs) zero x e h = let q : f ≡ x = cc in subst (λ (f : List ℕ × Data). IsShort f.1) q h.0
fields_short_at (f ∷ fs) (suc i) x e h = fields_short_at fs i x e h.1

pub fields_nesting_at : (fs : List (List ℕ × Data)) (i : ℕ) (f : List ℕ × Data) → slice_get fs i ≡ Some f → nesting f.1 ≤ nesting_fields (fields_of fs)
unfolding nesting nesting_fields
fields_nesting_at [] i x e = cc
fields_nesting_at (f ∷ fs) zero x e = let q : f ≡ x = cc in omega (arith, ap (λ (f : List ℕ × Data). nesting f.1) q)
fields_nesting_at (f ∷ fs) (suc i) x e = let h = fields_nesting_at fs i x e in omega (arith, h)

pub many_items : (ds : List Data) → many (items_of ds) ≡ length ds
many_items [] = refl
many_items (d ∷ ds) = ap suc (many_items ds)

pub needs_at : (vs : List Value) (i : ℕ) (v : Value) → slice_get vs i ≡ Some v → needs v ≤ all_needs vs
needs_at [] i v e = cc
needs_at (w ∷ vs) zero v e = let q : w ≡ v = cc in omega (arith, ap needs q)
needs_at (w ∷ vs) (suc i) v e = let h = needs_at vs i v e in omega (arith, h)

pub list_short : (ds : List Data) → IsShort (DList (items_of ds)) → (length ds ≤ 1000000) × AreItemsShort (items_of ds)
unfolding IsShort
list_short ds h = (omega (arith, h.0, many_items ds), h.1)

pub list_deep : (ds : List Data) (left : ℕ) → nesting (DList (items_of ds)) ≤ left → nesting_items (items_of ds) < left
unfolding nesting
list_deep ds left h = omega (arith, h)

pub plain_short : (fs : List (List ℕ × Data)) → IsShort (DFields (fields_of fs)) → AreFieldsShort (fields_of fs)
unfolding IsShort
plain_short fs h = h

pub plain_deep : (fs : List (List ℕ × Data)) (left : ℕ) → nesting (DFields (fields_of fs)) ≤ left → nesting_fields (fields_of fs) < left
unfolding nesting
plain_deep fs left h = omega (arith, h)
