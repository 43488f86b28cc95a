-- Data, one part after the other.
use Rattle.std.proofs.Common.{◌≡◌, ℕ, zero, suc, ◌+◌, ◌<◌, ◌≤◌, List, [], ◌∷◌, ◌++◌, length, get_or, take, Bool, true, false, ◌||◌, ◌&&◌, not, ◌^◌, Result, Ok, Err, OnOk, refl, sym, ap, subst, ◌∙◌, append_assoc, arith}
use Rattle.std.specs.Map.{keys_of}
use Rattle.std.specs.Prelude.{nat_eq}
use Rattle.std.specs.Int.{w32, to_be_bytes}
use Rattle.std.specs.List.{list_any, AllByRecursion, IsDistinct}
use Rattle.std.specs.Cmp.Lexicographic.{pointwise}
use Rattle.record_bytes.specs.Reading.{are_distinct}
use Rattle.std.proofs.lemmas.List.{append-nil, take_more}
use Rattle.turk_base.specs.Data.{Data, DList, DFields, IsDistinctKeys, NoItems, NoFields, items_of, fields_of, nesting, nesting_items, nesting_fields, keys}
use Rattle.record_bytes.specs.Spelling.{data_bytes, items_bytes, fields_bytes, text_bytes, count_items, count_fields}
use Rattle.record_bytes.specs.Limits.{IsTextWithin, IsDataWithin, AreItemsWithin, AreFieldsWithin, AreUnits, IsData, AreItems, AreFields}

pub count_items_of : (ds : List Data) → count_items (items_of ds) ≡ length ds
count_items_of [] = refl
count_items_of (d ∷ ds) = omega (arith, count_items_of ds)

pub count_fields_of : (fs : List (List ℕ × Data)) → count_fields (fields_of fs) ≡ length fs
count_fields_of [] = refl
count_fields_of (f ∷ fs) = omega (arith, count_fields_of fs)

pub keys_fields_of : (fs : List (List ℕ × Data)) → keys (fields_of fs) ≡ keys_of fs
keys_fields_of [] = refl
keys_fields_of (f ∷ fs) = ap (λ (l : List (List ℕ)). f.0 ∷ l) (keys_fields_of fs)

pub items_push : (ds : List Data) (d : Data) → items_bytes (items_of (ds ++ d ∷ [])) ≡ items_bytes (items_of ds) ++ data_bytes d
unfolding items_bytes
items_push [] d = append-nil (data_bytes d)
items_push (e ∷ ds) d = ap (λ (l : List ℕ). data_bytes e ++ l) (items_push ds d) ∙ sym (append_assoc (data_bytes e) (items_bytes (items_of ds)) (data_bytes d))

pub are_items_push : (ds : List Data) (d : Data) → AreItems (items_of ds) → IsData d → AreItems (items_of (ds ++ d ∷ []))
unfolding AreItems
are_items_push [] d are is = (is, tt)
are_items_push (e ∷ ds) d are is = (are.0, are_items_push ds d are.1 is)

pub fields_push : (fs : List (List ℕ × Data)) (f : List ℕ × Data) → fields_bytes (fields_of (fs ++ f ∷ [])) ≡ fields_bytes (fields_of fs) ++ (text_bytes f.0 ++ data_bytes f.1)
unfolding fields_bytes
fields_push [] f = append-nil (text_bytes f.0 ++ data_bytes f.1)
fields_push (e ∷ fs) f = ap (λ (l : List ℕ). (text_bytes e.0 ++ data_bytes e.1) ++ l) (fields_push fs f) ∙ sym (append_assoc (text_bytes e.0 ++ data_bytes e.1) (fields_bytes (fields_of fs)) (text_bytes f.0 ++ data_bytes f.1))

pub are_fields_push : (fs : List (List ℕ × Data)) (f : List ℕ × Data) → AreFields (fields_of fs) → AreUnits f.0 → IsData f.1 → AreFields (fields_of (fs ++ f ∷ []))
unfolding AreFields
are_fields_push [] f are key is = (key, (is, tt))
are_fields_push (e ∷ fs) f are key is = (are.0, (are.1.0, are_fields_push fs f are.1.1 key is))

pub items_within_at : (ds : List Data) (i : ℕ) (d : Data) → i < length ds → d ≡ get_or ds i d → AreItemsWithin (items_of ds) → IsDataWithin d
unfolding AreItemsWithin
items_within_at [] i d lt is within = absurd (omega arith)
items_within_at (e ∷ ds) zero d lt is within = subst IsDataWithin (sym is) within.0
items_within_at (e ∷ ds) (suc i) d lt is within = items_within_at ds i d (omega arith) is within.1

pub items_nesting_at : (ds : List Data) (i : ℕ) (d : Data) → i < length ds → d ≡ get_or ds i d → nesting d ≤ nesting_items (items_of ds)
unfolding nesting_items
items_nesting_at [] i d lt is = absurd (omega arith)
items_nesting_at (e ∷ ds) zero d lt is = omega (arith, ap nesting is)
items_nesting_at (e ∷ ds) (suc i) d lt is = omega (arith, items_nesting_at ds i d (omega arith) is)

pub fields_within_at : (fs : List (List ℕ × Data)) (i : ℕ) (f : List ℕ × Data) → i < length fs → f ≡ get_or fs i f → AreFieldsWithin (fields_of fs) → IsTextWithin f.0 × IsDataWithin f.1
unfolding AreFieldsWithin
fields_within_at [] i f lt is within = absurd (omega arith)
fields_within_at (e ∷ fs) zero f lt is within = subst (λ (x : List ℕ × Data). IsTextWithin x.0 × IsDataWithin x.1) (sym is) (within.0, within.1.0)
fields_within_at (e ∷ fs) (suc i) f lt is within = fields_within_at fs i f (omega arith) is within.1.1

pub fields_nesting_at : (fs : List (List ℕ × Data)) (i : ℕ) (f : List ℕ × Data) → i < length fs → f ≡ get_or fs i f → nesting f.1 ≤ nesting_fields (fields_of fs)
unfolding nesting_fields
fields_nesting_at [] i f lt is = absurd (omega arith)
fields_nesting_at (e ∷ fs) zero f lt is = omega (arith, ap (λ (x : List ℕ × Data). nesting x.1) is)
fields_nesting_at (e ∷ fs) (suc i) f lt is = omega (arith, fields_nesting_at fs i f (omega arith) is)

-- one item more in a loop
pub items_step : (ds : List Data) (i : ℕ) (d : Data) (old now new : List ℕ) → i < length ds → d ≡ get_or ds i d → (now ≡ old ++ items_bytes (items_of (take i ds))) × AreItems (items_of (take i ds)) → (new ≡ now ++ data_bytes d) × IsData d → (new ≡ old ++ items_bytes (items_of (take (i + 1) ds))) × AreItems (items_of (take (i + 1) ds))
items_step ds i d old now new lt is so_far more =
    let front : take (i + 1) ds ≡ take i ds ++ d ∷ [] = take_more ds i d lt ∙ ap (λ (x : Data). take i ds ++ x ∷ []) (sym is) in (
      more.0 ∙ ap (λ (l : List ℕ). l ++ data_bytes d) so_far.0 ∙ append_assoc old (items_bytes (items_of (take i ds))) (data_bytes d) ∙ ap (λ (l : List ℕ). old ++ l) (sym (items_push (take i ds) d)) ∙ ap (λ (l : List Data). old ++ items_bytes (items_of l)) (sym front),
      subst (λ (l : List Data). AreItems (items_of l)) (sym front) (are_items_push (take i ds) d so_far.1 more.1),
    )

-- one field more in a loop
pub fields_step : (fs : List (List ℕ × Data)) (i : ℕ) (f : List ℕ × Data) (old now mid new : List ℕ) → i < length fs → f ≡ get_or fs i f → (now ≡ old ++ fields_bytes (fields_of (take i fs))) × AreFields (fields_of (take i fs)) → mid ≡ now ++ text_bytes f.0 → AreUnits f.0 → (new ≡ mid ++ data_bytes f.1) × IsData f.1 → (new ≡ old ++ fields_bytes (fields_of (take (i + 1) fs))) × AreFields (fields_of (take (i + 1) fs))
fields_step fs i f old now mid new lt is so_far key units more =
    let front : take (i + 1) fs ≡ take i fs ++ f ∷ [] = take_more fs i f lt ∙ ap (λ (x : List ℕ × Data). take i fs ++ x ∷ []) (sym is) in
    let one : List ℕ = text_bytes f.0 ++ data_bytes f.1 in (
      more.0 ∙ ap (λ (l : List ℕ). l ++ data_bytes f.1) (key ∙ ap (λ (l : List ℕ). l ++ text_bytes f.0) so_far.0) ∙ append_assoc (old ++ fields_bytes (fields_of (take i fs))) (text_bytes f.0) (data_bytes f.1) ∙ append_assoc old (fields_bytes (fields_of (take i fs))) one ∙ ap (λ (l : List ℕ). old ++ l) (sym (fields_push (take i fs) f)) ∙ ap (λ (l : List (List ℕ × Data)). old ++ fields_bytes (fields_of l)) (sym front),
      subst (λ (l : List (List ℕ × Data)). AreFields (fields_of l)) (sym front) (are_fields_push (take i fs) f so_far.1 units more.1),
    )

pub no_items : (old : List ℕ) → (old ≡ old ++ items_bytes NoItems) × AreItems NoItems
unfolding items_bytes AreItems
no_items old = (sym (append-nil old), tt)

pub no_fields : (old : List ℕ) → (old ≡ old ++ fields_bytes NoFields) × AreFields NoFields
unfolding fields_bytes AreFields
no_fields old = (sym (append-nil old), tt)

-- ---- what was written for a list and for fields

pub on_ok_map : {T E : Type 0} {P Q : Type 0} (r : Result T E) → (P → Q) → OnOk r P → OnOk r Q
on_ok_map (Ok x) f h = f h
on_ok_map (Err e) f h = tt

pub list_written : (old a b new : List ℕ) (ds : List Data) (n : ℕ) → a ≡ old ++ 6 ∷ [] → b ≡ a ++ to_be_bytes w32 n → n ≡ length ds → new ≡ b ++ items_bytes (items_of ds) → new ≡ old ++ data_bytes (DList (items_of ds))
unfolding data_bytes items_bytes
list_written old a b new ds n a_is b_is n_is new_is =
    new_is ∙ ap (λ (l : List ℕ). l ++ items_bytes (items_of ds)) (b_is ∙ ap (λ (l : List ℕ). l ++ to_be_bytes w32 n) a_is ∙ append_assoc old (6 ∷ []) (to_be_bytes w32 n)) ∙ append_assoc old (6 ∷ to_be_bytes w32 n) (items_bytes (items_of ds))
    ∙ ap (λ (k : ℕ). old ++ (6 ∷ to_be_bytes w32 k ++ items_bytes (items_of ds))) (n_is ∙ sym (count_items_of ds))

pub fields_written : (old a b new : List ℕ) (fs : List (List ℕ × Data)) (n : ℕ) → a ≡ old ++ 7 ∷ [] → b ≡ a ++ to_be_bytes w32 n → n ≡ length fs → new ≡ b ++ fields_bytes (fields_of fs) → new ≡ old ++ data_bytes (DFields (fields_of fs))
unfolding data_bytes fields_bytes
fields_written old a b new fs n a_is b_is n_is new_is =
    new_is ∙ ap (λ (l : List ℕ). l ++ fields_bytes (fields_of fs)) (b_is ∙ ap (λ (l : List ℕ). l ++ to_be_bytes w32 n) a_is ∙ append_assoc old (7 ∷ []) (to_be_bytes w32 n)) ∙ append_assoc old (7 ∷ to_be_bytes w32 n) (fields_bytes (fields_of fs))
    ∙ ap (λ (k : ℕ). old ++ (7 ∷ to_be_bytes w32 k ++ fields_bytes (fields_of fs))) (n_is ∙ sym (count_fields_of fs))

pub list_small : (ds : List Data) → IsDataWithin (DList (items_of ds)) → length ds < 2 ^ 32
unfolding IsDataWithin
list_small ds within = omega (arith, within.0, count_items_of ds)

pub fields_small : (fs : List (List ℕ × Data)) → IsDataWithin (DFields (fields_of fs)) → length fs < 2 ^ 32
unfolding IsDataWithin
fields_small fs within = omega (arith, within.0, count_fields_of fs)

pub is_list : (ds : List Data) → AreItems (items_of ds) → IsData (DList (items_of ds))
unfolding IsData AreItems
is_list ds are = are

pub is_fields : (fs : List (List ℕ × Data)) → IsDistinctKeys (keys_of fs) → AreFields (fields_of fs) → IsData (DFields (fields_of fs))
unfolding IsData AreFields
is_fields fs distinct are = (subst IsDistinctKeys (sym (keys_fields_of fs)) distinct, are)

-- ---- keys that were tested

apart_from : (k : List ℕ) (ks : List (List ℕ)) → list_any (λ x. pointwise nat_eq k x) ks ≡ false → AllByRecursion (λ y. pointwise nat_eq k y ≡ false) ks
apart_from k [] none = tt
apart_from k (x ∷ ks) none = by_test (pointwise nat_eq k x) refl none (apart_from k ks)
  where
    by_test : (b : Bool) → pointwise nat_eq k x ≡ b → (b || list_any (λ y. pointwise nat_eq k y) ks) ≡ false → (list_any (λ y. pointwise nat_eq k y) ks ≡ false → AllByRecursion (λ y. pointwise nat_eq k y ≡ false) ks) → AllByRecursion (λ y. pointwise nat_eq k y ≡ false) (x ∷ ks)
    by_test true is other rest = absurd (cc)
    by_test false is other rest = (is, rest other)

pub distinct_by_test : (ks : List (List ℕ)) → are_distinct ks ≡ true → IsDistinctKeys ks
unfolding IsDistinct
distinct_by_test [] tested = tt
distinct_by_test (k ∷ ks) tested = by_test (list_any (λ x. pointwise nat_eq k x) ks) refl tested (distinct_by_test ks)
  where
    by_test : (b : Bool) → list_any (λ x. pointwise nat_eq k x) ks ≡ b → (not b && are_distinct ks) ≡ true → (are_distinct ks ≡ true → IsDistinctKeys ks) → IsDistinctKeys (k ∷ ks)
    by_test true is other rest = absurd (cc)
    by_test false is other rest = (apart_from k ks is, rest other)
