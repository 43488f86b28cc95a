-- Data within the limits of a record, one part after the other.
use Rattle.std.proofs.Common.{◌≡◌, ◌≤◌, ◌<◌, ◌+◌, ◌^◌, ℕ, sym, ap, subst, ◌∙◌, arith, List, [], ◌∷◌, ◌++◌, length, get_or, take, zero, suc}
use Rattle.std.proofs.lemmas.List.{take_more}
use Rattle.turk_base.specs.Data.{Data, DList, DFields, items_of, fields_of, nesting, nesting_items, nesting_fields}
use Rattle.record_bytes.specs.Limits.{IsTextWithin, IsDataWithin, AreItemsWithin, AreFieldsWithin}
use Rattle.record_bytes.proofs.Parts.{count_items_of, count_fields_of}

pub record ItemsFit (left : ℕ) (ds : List Data) : Type 0 where
  pub within : AreItemsWithin (items_of ds)
  pub deep : nesting_items (items_of ds) ≤ left

pub record FieldsFit (left : ℕ) (fs : List (List ℕ × Data)) : Type 0 where
  pub within : AreFieldsWithin (fields_of fs)
  pub deep : nesting_fields (fields_of fs) ≤ left

pub no_items : (left : ℕ) → ItemsFit left []
unfolding AreItemsWithin nesting_items
no_items left = record { within = tt; deep = omega arith }

pub no_fields : (left : ℕ) → FieldsFit left []
unfolding AreFieldsWithin nesting_fields
no_fields left = record { within = tt; deep = omega arith }

items_push : (left : ℕ) (ds : List Data) (d : Data) → AreItemsWithin (items_of ds) → nesting_items (items_of ds) ≤ left → IsDataWithin d → nesting d ≤ left → ItemsFit left (ds ++ d ∷ [])
unfolding AreItemsWithin nesting_items
items_push left [] d within deep is low = record { within = (is, tt); deep = omega (arith, low) }
items_push left (e ∷ ds) d within deep is low =
    let h = items_push left ds d within.1 (omega (arith, deep)) is low in
    record { within = (within.0, h.within); deep = (let q = h.deep in omega (arith, q, deep)) }

fields_push : (left : ℕ) (fs : List (List ℕ × Data)) (f : List ℕ × Data) → AreFieldsWithin (fields_of fs) → nesting_fields (fields_of fs) ≤ left → IsTextWithin f.0 → IsDataWithin f.1 → nesting f.1 ≤ left → FieldsFit left (fs ++ f ∷ [])
unfolding AreFieldsWithin nesting_fields
fields_push left [] f within deep key is low = record { within = (key, (is, tt)); deep = omega (arith, low) }
fields_push left (e ∷ fs) f within deep key is low =
    let h = fields_push left fs f within.1.1 (omega (arith, deep)) key is low in
    record { within = (within.0, (within.1.0, h.within)); deep = (let q = h.deep in omega (arith, q, deep)) }

-- one item more in a loop
pub items_next : (left : ℕ) (ds : List Data) (i : ℕ) (d : Data) → i < length ds → d ≡ get_or ds i d → ItemsFit left (take i ds) → IsDataWithin d → nesting d ≤ left → ItemsFit left (take (i + 1) ds)
items_next left ds i d lt is h within deep =
    let front : take (i + 1) ds ≡ take i ds ++ d ∷ [] = take_more ds i d lt ∙ ap (λ (x : Data). take i ds ++ x ∷ []) (sym is) in
    subst (ItemsFit left) (sym front) (items_push left (take i ds) d h.within h.deep within deep)

-- one field more in a loop
pub fields_next : (left : ℕ) (fs : List (List ℕ × Data)) (i : ℕ) (f : List ℕ × Data) → i < length fs → f ≡ get_or fs i f → FieldsFit left (take i fs) → IsTextWithin f.0 → IsDataWithin f.1 → nesting f.1 ≤ left → FieldsFit left (take (i + 1) fs)
fields_next left fs i f lt is h key within deep =
    let front : take (i + 1) fs ≡ take i fs ++ f ∷ [] = take_more fs i f lt ∙ ap (λ (x : List ℕ × Data). take i fs ++ x ∷ []) (sym is) in
    subst (FieldsFit left) (sym front) (fields_push left (take i fs) f h.within h.deep key within deep)

pub list_within : (ds : List Data) → length ds ≤ 1000000 → AreItemsWithin (items_of ds) → IsDataWithin (DList (items_of ds))
unfolding IsDataWithin AreItemsWithin
list_within ds few within = (omega (arith, few, count_items_of ds), within)

pub fields_within : (fs : List (List ℕ × Data)) → length fs < 2 ^ 32 → AreFieldsWithin (fields_of fs) → IsDataWithin (DFields (fields_of fs))
unfolding IsDataWithin AreFieldsWithin
fields_within fs few within = (omega (arith, few, count_fields_of fs), within)

pub list_deep : (ds : List Data) (left : ℕ) → 0 < left → nesting_items (items_of ds) + 1 ≤ left → nesting (DList (items_of ds)) ≤ left
unfolding nesting nesting_items
list_deep ds left some deep = omega (arith, deep)

pub fields_deep : (fs : List (List ℕ × Data)) (left : ℕ) → 0 < left → nesting_fields (fields_of fs) + 1 ≤ left → nesting (DFields (fields_of fs)) ≤ left
unfolding nesting nesting_fields
fields_deep fs left some deep = omega (arith, deep)

-- an item of a list that is within the limits is so too
pub item_fits : (left : ℕ) (ds : List Data) (i : ℕ) (d : Data) → i < length ds → d ≡ get_or ds i d → AreItemsWithin (items_of ds) → nesting_items (items_of ds) ≤ left → IsDataWithin d × (nesting d ≤ left)
unfolding AreItemsWithin nesting_items
item_fits left [] i d lt is within deep = absurd (omega (arith, lt))
item_fits left (e ∷ ds) zero d lt is within deep = subst (λ (x : Data). IsDataWithin x × (nesting x ≤ left)) (sym is) (within.0, omega (arith, deep))
item_fits left (e ∷ ds) (suc i) d lt is within deep = item_fits left ds i d (omega (arith, lt)) is within.1 (omega (arith, deep))

-- and a field
pub field_fits : (left : ℕ) (fs : List (List ℕ × Data)) (i : ℕ) (f : List ℕ × Data) → i < length fs → f ≡ get_or fs i f → AreFieldsWithin (fields_of fs) → nesting_fields (fields_of fs) ≤ left → IsTextWithin f.0 × (IsDataWithin f.1 × (nesting f.1 ≤ left))
unfolding AreFieldsWithin nesting_fields
field_fits left [] i f lt is within deep = absurd (omega (arith, lt))
field_fits left (e ∷ fs) zero f lt is within deep = subst (λ (x : List ℕ × Data). IsTextWithin x.0 × (IsDataWithin x.1 × (nesting x.1 ≤ left))) (sym is) (within.0, (within.1.0, omega (arith, deep)))
field_fits left (e ∷ fs) (suc i) f lt is within deep = field_fits left fs i f (omega (arith, lt)) is within.1.1 (omega (arith, deep))

pub list_parts : (ds : List Data) → IsDataWithin (DList (items_of ds)) → (length ds ≤ 1000000) × AreItemsWithin (items_of ds)
unfolding IsDataWithin AreItemsWithin
list_parts ds within = (let q = within.0 in omega (arith, q, count_items_of ds), within.1)

pub fields_parts : (fs : List (List ℕ × Data)) → IsDataWithin (DFields (fields_of fs)) → (length fs < 2 ^ 32) × AreFieldsWithin (fields_of fs)
unfolding IsDataWithin AreFieldsWithin
fields_parts fs within = (let q = within.0 in omega (arith, q, count_fields_of fs), within.1)

pub list_low : (ds : List Data) (left : ℕ) → nesting (DList (items_of ds)) ≤ left → nesting_items (items_of ds) + 1 ≤ left
unfolding nesting nesting_items
list_low ds left deep = omega (arith, deep)

pub fields_low : (fs : List (List ℕ × Data)) (left : ℕ) → nesting (DFields (fields_of fs)) ≤ left → nesting_fields (fields_of fs) + 1 ≤ left
unfolding nesting nesting_fields
fields_low fs left deep = omega (arith, deep)
