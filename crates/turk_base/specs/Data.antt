-- Plain data (own rule): what a once call keeps. Its size, its nesting, the distinctness of its keys, and how it is stored.
use Rattle.std.specs.Prelude.{ℕ, zero, suc, ◌+◌, max, Bool, true, false, List, [], ◌∷◌, length, ℤ, pos, negsuc, nat_eq, ◌≡◌, refl}
use Rattle.std.specs.List.{IsDistinct}
use Rattle.std.specs.Cmp.Lexicographic.{pointwise}
use Rattle.std.proofs.Common.{sym, ap, ◌∙◌}
use base.Stored.{Coded, Gv, gnil, gnum, gcons, num}

mutual
  pub data Data : Type 0 where
    DUndefined : Data
    DNull : Data
    DTruth : (b : Bool) → Data
    DNumber : (z : ℤ) → Data
    DText : (units : List ℕ) → Data
    DList : (items : Items) → Data
    DFields : (fields : Fields) → Data

  pub data Items : Type 0 where
    NoItems : Items
    Item : (d : Data) → (rest : Items) → Items

  pub data Fields : Type 0 where
    NoFields : Fields
    Field : (key : List ℕ) → (d : Data) → (rest : Fields) → Fields

-- the size: 1 for a primitive and the units of a text; a list and fields have 1 more than what they hold, and each field 1 and its key's units
unfoldable mutual
  pub size : Data → ℕ
  size DUndefined = 1
  size DNull = 1
  size (DTruth b) = 1
  size (DNumber z) = 1
  size (DText t) = 1 + length t
  size (DList items) = 1 + size_items items
  size (DFields fields) = 1 + size_fields fields

  pub size_items : Items → ℕ
  size_items NoItems = 0
  size_items (Item d rest) = size d + size_items rest

  pub size_fields : Fields → ℕ
  size_fields NoFields = 0
  size_fields (Field key d rest) = 1 + length key + size d + size_fields rest

-- the nesting: 0 for a primitive, else one more than the deepest item's, 0 where there is none
unfoldable mutual
  pub nesting : Data → ℕ
  nesting DUndefined = 0
  nesting DNull = 0
  nesting (DTruth b) = 0
  nesting (DNumber z) = 0
  nesting (DText t) = 0
  nesting (DList items) = suc (nesting_items items)
  nesting (DFields fields) = suc (nesting_fields fields)

  pub nesting_items : Items → ℕ
  nesting_items NoItems = 0
  nesting_items (Item d rest) = max (nesting d) (nesting_items rest)

  pub nesting_fields : Fields → ℕ
  nesting_fields NoFields = 0
  nesting_fields (Field key d rest) = max (nesting d) (nesting_fields rest)

-- the keys of fields, and the items of a list
abbrev pub keys : Fields → List (List ℕ)
keys NoFields = []
keys (Field key d rest) = key ∷ keys rest

-- the keys of fields are distinct
abbrev pub IsDistinctKeys : List (List ℕ) → Type 0
IsDistinctKeys = IsDistinct (pointwise nat_eq)

-- a list as items, and pairs as fields
abbrev pub items_of : List Data → Items
items_of [] = NoItems
items_of (d ∷ ds) = Item d (items_of ds)

abbrev pub fields_of : List (List ℕ × Data) → Fields
fields_of [] = NoFields
fields_of (f ∷ fs) = Field f.0 f.1 (fields_of fs)

-- ---- the code of plain data, a tree of numbers, and back

code_units : List ℕ → Gv
code_units [] = gnil
code_units (x ∷ xs) = gcons (gnum x) (code_units xs)

back_units : Gv → List ℕ
back_units gnil = []
back_units (gnum n) = []
back_units (gcons a b) = num a ∷ back_units b

back_code_units : (t : List ℕ) → back_units (code_units t) ≡ t
unfolding code_units back_units
back_code_units [] = refl
back_code_units (x ∷ xs) = ap (x ∷◌) (back_code_units xs)

mutual
  pub code_data : Data → Gv
  code_data DUndefined = gnum 0
  code_data DNull = gnum 1
  code_data (DTruth false) = gnum 2
  code_data (DTruth true) = gnum 3
  code_data (DNumber (pos n)) = gcons (gnum 0) (gnum n)
  code_data (DNumber (negsuc n)) = gcons (gnum 1) (gnum n)
  code_data (DText t) = gcons (gnum 2) (code_units t)
  code_data (DList items) = gcons (gnum 3) (code_items items)
  code_data (DFields fields) = gcons (gnum 4) (code_fields fields)

  code_items : Items → Gv
  code_items NoItems = gnil
  code_items (Item d rest) = gcons (code_data d) (code_items rest)

  code_fields : Fields → Gv
  code_fields NoFields = gnil
  code_fields (Field key d rest) = gcons (code_units key) (gcons (code_data d) (code_fields rest))

plain_of : ℕ → Data
plain_of zero = DUndefined
plain_of (suc zero) = DNull
plain_of (suc (suc zero)) = DTruth false
plain_of (suc (suc (suc n))) = DTruth true

by_tag : ℕ → (a b c d e : Data) → Data
by_tag zero a b c d e = a
by_tag (suc zero) a b c d e = b
by_tag (suc (suc zero)) a b c d e = c
by_tag (suc (suc (suc zero))) a b c d e = d
by_tag (suc (suc (suc (suc n)))) a b c d e = e

mutual
  pub back_data : Gv → Data
  back_data gnil = DUndefined
  back_data (gnum n) = plain_of n
  back_data (gcons t g) = by_tag (num t) (DNumber (pos (num g))) (DNumber (negsuc (num g))) (DText (back_units g)) (DList (back_items g)) (DFields (back_fields g))

  back_items : Gv → Items
  back_items gnil = NoItems
  back_items (gnum n) = NoItems
  back_items (gcons a b) = Item (back_data a) (back_items b)

  back_fields : Gv → Fields
  back_fields gnil = NoFields
  back_fields (gnum n) = NoFields
  back_fields (gcons key gnil) = NoFields
  back_fields (gcons key (gnum n)) = NoFields
  back_fields (gcons key (gcons a b)) = Field (back_units key) (back_data a) (back_fields b)

mutual
  unfolding code_data code_items code_fields back_data back_items back_fields plain_of by_tag

  pub back_code_data : (d : Data) → back_data (code_data d) ≡ d
  back_code_data DUndefined = refl
  back_code_data DNull = refl
  back_code_data (DTruth false) = refl
  back_code_data (DTruth true) = refl
  back_code_data (DNumber (pos n)) = refl
  back_code_data (DNumber (negsuc n)) = refl
  back_code_data (DText t) = ap DText (back_code_units t)
  back_code_data (DList items) = ap DList (back_code_items items)
  back_code_data (DFields fields) = ap DFields (back_code_fields fields)

  back_code_items : (items : Items) → back_items (code_items items) ≡ items
  back_code_items NoItems = refl
  back_code_items (Item d rest) = λ i. Item (back_code_data d i) (back_code_items rest i)

  back_code_fields : (fields : Fields) → back_fields (code_fields fields) ≡ fields
  back_code_fields NoFields = refl
  back_code_fields (Field key d rest) = λ i. Field (back_code_units key i) (back_code_data d i) (back_code_fields rest i)

abbrev pub coded_data : Coded Data
coded_data = record { code = code_data; inj = λ x y e. sym (back_code_data x) ∙ ap back_data e ∙ back_code_data y }
