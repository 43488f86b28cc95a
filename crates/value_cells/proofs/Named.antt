-- Properties with numbers for their keys say the same as with the keys' texts.
use Rattle.std.proofs.Common.{◌≡◌, ◌∙◌, subst, ap, refl, sym, ℕ, zero, suc, Bool, true, false, cond, true≢false, nat_eq, List, [], ◌∷◌, ◌++◌, set, Option, Some, None, option_map, slice_get, arith}
use Rattle.std.proofs.lemmas.Bool.Decides.{nat_tests}
use Rattle.std.proofs.lemmas.Option.{get_or_from_slice_get}
use Rattle.std.proofs.lemmas.List.{map-append}
use Rattle.std.specs.List.{IsDistinct, AllByRecursion}
use Rattle.std.specs.Map.{keys_of, lookup, set_value, remove_entry}
use Rattle.key_table.specs.Keys.{Key, HasNumber, HasNone, AreDistinct, Grows}
use Rattle.key_table.proofs.KeyFacts.{same_key, key_same, pushed}
use Rattle.value_cells.specs.declared.Value.{Value}
use Rattle.value_cells.specs.declared.CellData.{CellData}
use Rattle.value_cells.specs.Held.{key_eq}
use Rattle.value_cells.specs.Named.{Entries, key_in, named, AreNumbers, stored, IsNumbered}

-- ---- a key and its number

pub text_is : (keys : List Key) (key : Key) (n : ℕ) → HasNumber keys key n → key_in keys n ≡ key
text_is keys key n h = ap (key_in keys) h.number_is ∙ get_or_from_slice_get keys h.place key [] h.stands

-- the number has a text, which is that
pub has_text : (keys : List Key) (key : Key) (n : ℕ) → HasNumber keys key n → HasNumber keys (key_in keys n) n
has_text keys key n h = subst (λ k. HasNumber keys k n) (sym (text_is keys key n h)) h

same_number : (keys : List Key) → AreDistinct keys → (key : Key) (n m : ℕ) → HasNumber keys key n → HasNumber keys key m → n ≡ m
same_number keys d key n m h g = h.number_is ∙ ap suc (d.once h.place g.place key h.stands g.stands) ∙ sym g.number_is

-- a test for a key is the same as one for its number
pub same_test : (keys : List Key) → AreDistinct keys → (key : Key) (n m : ℕ) → HasNumber keys key n → HasNumber keys (key_in keys m) m → key_eq key (key_in keys m) ≡ nat_eq n m
same_test keys d key n m h g = by (key_eq key (key_in keys m)) (nat_eq n m) refl refl
  where
    by : (b c : Bool) → key_eq key (key_in keys m) ≡ b → nat_eq n m ≡ c → b ≡ c
    by true true e f = refl
    by false false e f = refl
    by true false e f =
        let k : key_in keys m ≡ key = sym (same_key key (key_in keys m) e) in
        let one : n ≡ m = same_number keys d key n m h (subst (λ k. HasNumber keys k m) k g) in
        absurd (grind (arith, nat_tests))
    by false true e f =
        let one : n ≡ m = grind (arith, nat_tests) in
        let k : key_in keys m ≡ key = ap (key_in keys) (sym one) ∙ text_is keys key n h in
        absurd (true≢false (sym (key_same key) ∙ ap (key_eq key) (sym k) ∙ e))

-- a key without a number is no key of the table
pub none_test : (keys : List Key) (key : Key) (m : ℕ) → HasNone keys key → HasNumber keys (key_in keys m) m → key_eq key (key_in keys m) ≡ false
none_test keys key m h g = by (key_eq key (key_in keys m)) refl
  where
    by : (b : Bool) → key_eq key (key_in keys m) ≡ b → b ≡ false
    by true e = absurd (h.missing g.place (g.stands ∙ ap Some (sym (same_key key (key_in keys m) e))))
    by false e = refl

-- ---- look-ups and edits

module _ (keys : List Key) (d : AreDistinct keys) (key : Key) (n : ℕ) (h : HasNumber keys key n) where
  pub lookup_named : (es : Entries) → AreNumbers keys es → lookup (key_eq key) (named keys es) ≡ lookup (nat_eq n) es
  lookup_named [] g = refl
  lookup_named (e ∷ es) g = λ i. cond (same_test keys d key n e.0 h g.0 i) (Some e.1) (lookup_named es g.1 i)

  pub set_named : (es : Entries) (v : Value) → AreNumbers keys es → named keys (set_value (nat_eq n) es v) ≡ set_value (key_eq key) (named keys es) v
  set_named [] v g = refl
  set_named (e ∷ es) v g =
      by (nat_eq n e.0)
      ∙ sym (λ i. cond (same_test keys d key n e.0 h g.0 i) ((key_in keys e.0, v) ∷ named keys es) ((key_in keys e.0, e.1) ∷ sym (set_named es v g.1) i))
    where
      by : (b : Bool) → named keys (cond b ((e.0, v) ∷ es) (e ∷ set_value (nat_eq n) es v)) ≡ cond b ((key_in keys e.0, v) ∷ named keys es) ((key_in keys e.0, e.1) ∷ named keys (set_value (nat_eq n) es v))
      by true = refl
      by false = refl

  pub remove_named : (es : Entries) → AreNumbers keys es → named keys (remove_entry (nat_eq n) es) ≡ remove_entry (key_eq key) (named keys es)
  remove_named [] g = refl
  remove_named (e ∷ es) g =
      by (nat_eq n e.0)
      ∙ sym (λ i. cond (same_test keys d key n e.0 h g.0 i) (named keys es) ((key_in keys e.0, e.1) ∷ sym (remove_named es g.1) i))
    where
      by : (b : Bool) → named keys (cond b es (e ∷ remove_entry (nat_eq n) es)) ≡ cond b (named keys es) ((key_in keys e.0, e.1) ∷ named keys (remove_entry (nat_eq n) es))
      by true = refl
      by false = refl

  pub push_named : (es : Entries) (v : Value) → named keys (es ++ (n, v) ∷ []) ≡ named keys es ++ (key, v) ∷ []
  push_named es v = map-append (λ (e : ℕ × Value). (key_in keys e.0, e.1)) es ((n, v) ∷ []) ∙ (λ i. named keys es ++ (text_is keys key n h i, v) ∷ [])

pub lookup_none : (keys : List Key) (key : Key) → HasNone keys key → (es : Entries) → AreNumbers keys es → lookup (key_eq key) (named keys es) ≡ None
lookup_none keys key h [] g = refl
lookup_none keys key h (e ∷ es) g = λ i. cond (none_test keys key e.0 h g.0 i) (Some e.1) (lookup_none keys key h es g.1 i)

module _ (keys : List Key) where
  pub numbers_set : (t : ℕ → Bool) (es : Entries) (v : Value) → AreNumbers keys es → AreNumbers keys (set_value t es v)
  numbers_set t [] v g = tt
  numbers_set t (e ∷ es) v g = by (t e.0) (numbers_set t es v g.1)
    where
      by : (b : Bool) → AreNumbers keys (set_value t es v) → AreNumbers keys (cond b ((e.0, v) ∷ es) (e ∷ set_value t es v))
      by true r = (g.0, g.1)
      by false r = (g.0, r)

  pub numbers_remove : (t : ℕ → Bool) (es : Entries) → AreNumbers keys es → AreNumbers keys (remove_entry t es)
  numbers_remove t [] g = tt
  numbers_remove t (e ∷ es) g = by (t e.0) (numbers_remove t es g.1)
    where
      by : (b : Bool) → AreNumbers keys (remove_entry t es) → AreNumbers keys (cond b es (e ∷ remove_entry t es))
      by true r = g.1
      by false r = (g.0, r)

  pub numbers_push : (es : Entries) (n : ℕ) (v : Value) → AreNumbers keys es → HasNumber keys (key_in keys n) n → AreNumbers keys (es ++ (n, v) ∷ [])
  numbers_push [] n v g h = (h, tt)
  numbers_push (e ∷ es) n v g h = (g.0, numbers_push es n v g.1 h)

  -- the number at a place
  pub number_at : (es : Entries) (i n : ℕ) → AreNumbers keys es → slice_get (keys_of es) i ≡ Some n → HasNumber keys (key_in keys n) n
  number_at [] i n g e = cc
  number_at (p ∷ es) zero n g e = let one : p.0 ≡ n = cc in subst (λ n. HasNumber keys (key_in keys n) n) one g.0
  number_at (p ∷ es) (suc i) n g e = number_at es i n g.1 e

  -- the key at a place
  pub key_named : (es : Entries) (i : ℕ) (o : Option ℕ) → slice_get (keys_of es) i ≡ o → slice_get (keys_of (named keys es)) i ≡ option_map (key_in keys) o
  key_named [] i o e = ap (option_map (key_in keys)) e
  key_named (p ∷ es) zero o e = ap (option_map (key_in keys)) e
  key_named (p ∷ es) (suc i) o e = key_named es i o e

-- ---- keys that differ

module _ (keys : List Key) (d : AreDistinct keys) where
  apart : (n : ℕ) → HasNumber keys (key_in keys n) n → (es : Entries) → AreNumbers keys es → AllByRecursion (λ m. nat_eq n m ≡ false) (keys_of es) → AllByRecursion (λ k. key_eq (key_in keys n) k ≡ false) (keys_of (named keys es))
  apart n h [] g a = tt
  apart n h (e ∷ es) g a = (same_test keys d (key_in keys n) n e.0 h g.0 ∙ a.0, apart n h es g.1 a.1)

  pub distinct_named : (es : Entries) → AreNumbers keys es → IsDistinct nat_eq (keys_of es) → IsDistinct key_eq (keys_of (named keys es))
  unfolding IsDistinct
  distinct_named [] g a = tt
  distinct_named (e ∷ es) g a = (apart e.0 g.0 es g.1 a.0, distinct_named es g.1 a.1)

-- ---- more keys

module _ (old new : List Key) (grows : Grows old new) where
  pub number_more : (key : Key) (n : ℕ) → HasNumber old key n → HasNumber new key n
  number_more key n h = record { place = h.place; number_is = h.number_is; stands = grows.stays h.place key h.stands }

  text_more : (n : ℕ) → HasNumber old (key_in old n) n → key_in new n ≡ key_in old n
  text_more n h = text_is new (key_in old n) n (number_more (key_in old n) n h)

  pub named_more : (es : Entries) → AreNumbers old es → named new es ≡ named old es
  named_more [] g = refl
  named_more (e ∷ es) g = λ i. (text_more e.0 g.0 i, e.1) ∷ named_more es g.1 i

  pub numbers_more : (es : Entries) → AreNumbers old es → AreNumbers new es
  numbers_more [] g = tt
  numbers_more (e ∷ es) g = (has_text new (key_in old e.0) e.0 (number_more (key_in old e.0) e.0 g.0), numbers_more es g.1)

  pub all_more : (ds : List CellData) → IsNumbered old ds → IsNumbered new ds
  all_more ds g = record { each = λ i d e. numbers_more d.props (g.each i d e) }

  pub stored_more : (ds : List CellData) → IsNumbered old ds → stored new ds ≡ stored old ds
  stored_more [] g = refl
  stored_more (d ∷ ds) g =
      λ i. record { name = d.name; kind = d.kind; props = named_more d.props (g.each 0 d refl) i } ∷ stored_more ds (record { each = λ j. g.each (suc j) }) i

-- ---- one cell is changed, or added

set_all : {A : Type 0} (P : A → Type 0) (xs : List A) (i : ℕ) (x : A) → ((j : ℕ) (y : A) → slice_get xs j ≡ Some y → P y) → P x → (j : ℕ) (y : A) → slice_get (set xs i x) j ≡ Some y → P y
set_all P [] i x all new j y e = cc
set_all P (z ∷ xs) zero x all new zero y e = let one : x ≡ y = cc in subst P one new
set_all P (z ∷ xs) zero x all new (suc j) y e = all (suc j) y e
set_all P (z ∷ xs) (suc i) x all new zero y e = all 0 y e
set_all P (z ∷ xs) (suc i) x all new (suc j) y e = set_all P xs i x (λ j. all (suc j)) new j y e

pub all_set : (keys : List Key) (ds : List CellData) (i : ℕ) (d : CellData) → IsNumbered keys ds → AreNumbers keys d.props → IsNumbered keys (set ds i d)
all_set keys ds i d g h = record { each = set_all (λ d. AreNumbers keys d.props) ds i d g.each h }

pub all_pushed : (keys : List Key) (ds : List CellData) (d : CellData) → IsNumbered keys ds → AreNumbers keys d.props → IsNumbered keys (ds ++ d ∷ [])
all_pushed keys ds d g h = record { each = pushed (λ i d. AreNumbers keys d.props) ds d g.each h }
