-- What is spelled is read again, whatever follows it: so no spelling begins another.
use Rattle.std.proofs.Common.{◌≡◌, ℕ, zero, suc, ◌+◌, ◌-◌, ◌^◌, ◌<◌, ◌≤◌, true, false, cond, ◌&&◌, ltb, leb, List, [], ◌∷◌, ◌++◌, length, Some, None, refl, ap, ◌∙◌, append_assoc, arith, length-append}
use Rattle.std.specs.Prelude.{ℤ, pos, negsuc, map, nat_eq}
use Rattle.std.specs.List.{flat_map, AllByRecursion, IsDistinct, list_any}
use Rattle.std.specs.Cmp.Lexicographic.{pointwise}
use Rattle.std.specs.Int.{Width, w16, w32, w64, byte_len, from_be_bytes, to_be_bytes}
use Rattle.std.proofs.lemmas.Bool.{le-ltb, lt-ltb, le-leb, lt-leb}
use Rattle.std.proofs.lemmas.Int.{ints}
use Rattle.std.proofs.lemmas.List.{take_at, drop_at}
use Rattle.std.proofs.lemmas.List.Concat.{flat_map-cons}
use Rattle.std.proofs.lemmas.Nat.{from_be_bytes-to_be_bytes_2, from_be_bytes-to_be_bytes_4, from_be_bytes-to_be_bytes_8}
use Rattle.turk_base.specs.Whole.{IsWhole}
use Rattle.turk_base.specs.Data.{Data, DUndefined, DNull, DTruth, DNumber, DText, DList, DFields, Items, NoItems, Item, Fields, NoFields, Field, items_of, fields_of, nesting, nesting_items, nesting_fields, keys, IsDistinctKeys}
use Rattle.turk_base.specs.declared.Entry.{Entry}
use Rattle.turk_base.specs.declared.Record.{Record}
use Rattle.turk_base.specs.declared.Record.TheVariants.{Post, Reply, Draw, Once}
use Rattle.record_bytes.specs.Spelling.{text_bytes, path_bytes, twos_complement, number_bytes, count_items, count_fields, data_bytes, items_bytes, fields_bytes, kind_of, body_bytes, entry_bytes, task_bytes}
use Rattle.record_bytes.specs.Limits.{IsTextWithin, AreUnits, IsDataWithin, AreItemsWithin, AreFieldsWithin, IsDraw, IsRecordWithin, IsWithin, IsData, AreItems, AreFields, IsRecord, IsEntry}
use Rattle.record_bytes.specs.Reading.{◌>>=◌, Reader, byte_at, number_at, numbers_at, text_at, path_at, whole_from, whole_at, are_distinct, items_at, fields_at, list_with, fields_with, tagged_at, data_at, parts_at, draw_at, reply_at, body_at, entry_at, task_pair, task_at}

-- a width, and how many numbers it holds
pub record Holds (w : Width) (limit : ℕ) : Type 0 where
  pub len : (n : ℕ) → length (to_be_bytes w n) ≡ byte_len w
  pub again : (n : ℕ) → n < limit → from_be_bytes w (to_be_bytes w n) ≡ n

pub holds16 : Holds w16 (2 ^ 16)
holds16 = record { len = λ n. refl; again = λ n lt. from_be_bytes-to_be_bytes_2 n lt }

pub holds32 : Holds w32 (2 ^ 32)
holds32 = record { len = λ n. refl; again = λ n lt. from_be_bytes-to_be_bytes_4 n lt }

pub holds64 : Holds w64 (2 ^ 64)
holds64 = record { len = λ n. refl; again = λ n lt. from_be_bytes-to_be_bytes_8 n lt }

pub number_again : (w : Width) (limit : ℕ) (holds : Holds w limit) (n : ℕ) (rest : List ℕ) → n < limit → number_at w (to_be_bytes w n ++ rest) ≡ Some (n, rest)
number_again w limit holds n rest lt =
    let len = holds.len n in
    let long : ltb (length (to_be_bytes w n ++ rest)) (byte_len w) ≡ false = le-ltb _ _ (omega (arith, length-append (to_be_bytes w n) rest)) in
    rw (long, take_at (to_be_bytes w n) rest (byte_len w) len, drop_at (to_be_bytes w n) rest (byte_len w) len, holds.again n lt) refl

pub numbers_again : (w : Width) (limit : ℕ) (holds : Holds w limit) (xs : List ℕ) (rest : List ℕ) → AllByRecursion (λ x. x < limit) xs → numbers_at w (length xs) (flat_map (to_be_bytes w) xs ++ rest) ≡ Some (xs, rest)
unfolding numbers_at
numbers_again w limit holds [] rest fit = refl
numbers_again w limit holds (x ∷ xs) rest fit =
    let regrouped : flat_map (to_be_bytes w) (x ∷ xs) ++ rest ≡ to_be_bytes w x ++ (flat_map (to_be_bytes w) xs ++ rest) = ap (λ (l : List ℕ). l ++ rest) (flat_map-cons (to_be_bytes w) x xs) ∙ append_assoc (to_be_bytes w x) (flat_map (to_be_bytes w) xs) rest in
    ap (numbers_at w (suc (length xs))) regrouped ∙ ap (λ o. o >>= λ y. numbers_at w (length xs) y.1 >>= λ ys. Some (y.0 ∷ ys.0, ys.1)) (number_again w limit holds x (flat_map (to_be_bytes w) xs ++ rest) fit.0) ∙ ap (λ o. o >>= λ ys. Some (x ∷ ys.0, ys.1)) (numbers_again w limit holds xs rest fit.1)

pub text_again : (t rest : List ℕ) → IsTextWithin t → AreUnits t → text_at (text_bytes t ++ rest) ≡ Some (t, rest)
unfolding text_at text_bytes
text_again t rest within fit =
    let regrouped : (to_be_bytes w32 (length t) ++ flat_map (to_be_bytes w16) t) ++ rest ≡ to_be_bytes w32 (length t) ++ (flat_map (to_be_bytes w16) t ++ rest) = append_assoc (to_be_bytes w32 (length t)) (flat_map (to_be_bytes w16) t) rest in
    let small : length t < 2 ^ 32 = omega arith in
    ap text_at regrouped ∙ ap (λ o. o >>= λ n. cond (leb n.0 1048576) (numbers_at w16 n.0 n.1) None) (number_again w32 (2 ^ 32) holds32 (length t) (flat_map (to_be_bytes w16) t ++ rest) small)
    ∙ ap (λ b. cond b (numbers_at w16 (length t) (flat_map (to_be_bytes w16) t ++ rest)) None) (le-leb (length t) 1048576 within) ∙ numbers_again w16 (2 ^ 16) holds16 t rest fit

pub path_again : (p rest : List ℕ) → 0 < length p → length p ≤ 800 → AllByRecursion (λ i. i < 2 ^ 32) p → path_at (path_bytes p ++ rest) ≡ Some (p, rest)
unfolding path_at path_bytes
path_again p rest some short fit =
    let regrouped : (to_be_bytes w16 (length p) ++ flat_map (to_be_bytes w32) p) ++ rest ≡ to_be_bytes w16 (length p) ++ (flat_map (to_be_bytes w32) p ++ rest) = append_assoc (to_be_bytes w16 (length p)) (flat_map (to_be_bytes w32) p) rest in
    let small : length p < 2 ^ 16 = omega arith in
    let fits : (ltb 0 (length p) && leb (length p) 800) ≡ true = rw (lt-ltb 0 (length p) some, le-leb (length p) 800 short) refl in
    ap path_at regrouped ∙ ap (λ o. o >>= λ n. cond (ltb 0 n.0 && leb n.0 800) (numbers_at w32 n.0 n.1) None) (number_again w16 (2 ^ 16) holds16 (length p) (flat_map (to_be_bytes w32) p ++ rest) small)
    ∙ ap (λ b. cond b (numbers_at w32 (length p) (flat_map (to_be_bytes w32) p ++ rest)) None) fits ∙ numbers_again w32 (2 ^ 32) holds32 p rest fit

twos_small : (z : ℤ) → IsWhole z → twos_complement z < 2 ^ 64
twos_small (pos n) is = omega (arith, ints, is.high)
twos_small (negsuc n) is = omega arith

whole_from_again : (z : ℤ) → IsWhole z → whole_from (twos_complement z) ≡ Some z
whole_from_again (pos n) is =
    let small : n ≤ 2 ^ 53 = omega (arith, ints, is.high) in
    rw (le-leb n (2 ^ 53) small) refl
whole_from_again (negsuc n) is =
    let small : n < 2 ^ 53 = omega (arith, ints, is.low) in
    let m : ℕ = 2 ^ 64 - (n + 1) in
    let high : leb m (2 ^ 53) ≡ false = lt-leb m (2 ^ 53) (omega arith) in
    let far : leb (2 ^ 64 - 2 ^ 53) m ≡ true = le-leb (2 ^ 64 - 2 ^ 53) m (omega arith) in
    let back : 2 ^ 64 - 1 - m ≡ n = omega arith in
    ap (λ b. cond b (Some (pos m)) (cond (leb (2 ^ 64 - 2 ^ 53) m) (Some (negsuc (2 ^ 64 - 1 - m))) None)) high ∙ ap (λ b. cond b (Some (negsuc (2 ^ 64 - 1 - m))) None) far ∙ ap (λ k. Some (negsuc k)) back

pub whole_again : (z : ℤ) (rest : List ℕ) → IsWhole z → whole_at (number_bytes z ++ rest) ≡ Some (z, rest)
unfolding whole_at number_bytes
whole_again z rest is =
    ap (λ o. o >>= λ n. whole_from n.0 >>= λ x. Some (x, n.1)) (number_again w64 (2 ^ 64) holds64 (twos_complement z) rest (twos_small z is)) ∙ ap (λ o. o >>= λ x. Some (x, rest)) (whole_from_again z is)

-- ---- data

pub data_is : (left : ℕ) (bytes : List ℕ) (tag : ℕ) (rest : List ℕ) → byte_at bytes ≡ Some (tag, rest) → data_at left bytes ≡ tagged_at (parts_at left) tag rest
unfolding data_at
data_is zero bytes tag rest is = ap (λ o. o >>= λ b. tagged_at None b.0 b.1) is
data_is (suc left) bytes tag rest is = ap (λ o. o >>= λ b. tagged_at (Some (data_at left)) b.0 b.1) is

abbrev pub list_of : Items → List Data
list_of NoItems = []
list_of (Item d rest) = d ∷ list_of rest

abbrev pub pairs_of : Fields → List (List ℕ × Data)
pairs_of NoFields = []
pairs_of (Field key d rest) = (key, d) ∷ pairs_of rest

items_back : (items : Items) → items_of (list_of items) ≡ items
items_back NoItems = refl
items_back (Item d rest) = ap (λ (r : Items). Item d r) (items_back rest)

fields_back : (fields : Fields) → fields_of (pairs_of fields) ≡ fields
fields_back NoFields = refl
fields_back (Field key d rest) = ap (λ (r : Fields). Field key d r) (fields_back rest)

keys_back : (fields : Fields) → map (λ f. f.0) (pairs_of fields) ≡ keys fields
keys_back NoFields = refl
keys_back (Field key d rest) = ap (λ (r : List (List ℕ)). key ∷ r) (keys_back rest)

none_any : (k : List ℕ) (ks : List (List ℕ)) → AllByRecursion (λ y. pointwise nat_eq k y ≡ false) ks → list_any (λ x. pointwise nat_eq k x) ks ≡ false
none_any k [] all = refl
none_any k (x ∷ ks) all = rw (all.0, none_any k ks all.1) refl

distinct_tested : (ks : List (List ℕ)) → IsDistinctKeys ks → are_distinct ks ≡ true
unfolding IsDistinct
distinct_tested [] distinct = refl
distinct_tested (k ∷ ks) distinct = rw (none_any k ks distinct.0, distinct_tested ks distinct.1) refl

list_again : (read : Reader Data) (items : Items) (rest : List ℕ) → count_items items ≤ 1000000 → items_at read (count_items items) (items_bytes items ++ rest) ≡ Some (list_of items, rest)
    → list_with read ((to_be_bytes w32 (count_items items) ++ items_bytes items) ++ rest) ≡ Some (DList items, rest)
unfolding list_with
list_again read items rest few again =
    let n = count_items items in
    let regrouped = append_assoc (to_be_bytes w32 n) (items_bytes items) rest in
    let small : n < 2 ^ 32 = omega arith in
    ap (list_with read) regrouped ∙ ap (λ o. o >>= λ c. cond (leb c.0 1000000) (items_at read c.0 c.1 >>= λ ds. Some (DList (items_of ds.0), ds.1)) None) (number_again w32 (2 ^ 32) holds32 n (items_bytes items ++ rest) small)
    ∙ ap (λ b. cond b (items_at read n (items_bytes items ++ rest) >>= λ ds. Some (DList (items_of ds.0), ds.1)) None) (le-leb n 1000000 few) ∙ ap (λ o. o >>= λ ds. Some (DList (items_of ds.0), ds.1)) again ∙ ap (λ (i : Items). Some (DList i, rest)) (items_back items)

fields_again : (read : Reader Data) (fields : Fields) (rest : List ℕ) → count_fields fields < 2 ^ 32 → IsDistinctKeys (keys fields) → fields_at read (count_fields fields) (fields_bytes fields ++ rest) ≡ Some (pairs_of fields, rest)
    → fields_with read ((to_be_bytes w32 (count_fields fields) ++ fields_bytes fields) ++ rest) ≡ Some (DFields fields, rest)
unfolding fields_with
fields_again read fields rest small distinct again =
    let n = count_fields fields in
    let regrouped = append_assoc (to_be_bytes w32 n) (fields_bytes fields) rest in
    let tested : are_distinct (map (λ f. f.0) (pairs_of fields)) ≡ true = ap are_distinct (keys_back fields) ∙ distinct_tested (keys fields) distinct in
    ap (fields_with read) regrouped ∙ ap (λ o. o >>= λ c. fields_at read c.0 c.1 >>= λ fs. cond (are_distinct (map (λ f. f.0) fs.0)) (Some (DFields (fields_of fs.0), fs.1)) None) (number_again w32 (2 ^ 32) holds32 n (fields_bytes fields ++ rest) small)
    ∙ ap (λ o. o >>= λ fs. cond (are_distinct (map (λ f. f.0) fs.0)) (Some (DFields (fields_of fs.0), fs.1)) None) again ∙ ap (λ b. cond b (Some (DFields (fields_of (pairs_of fields)), rest)) None) tested ∙ ap (λ (f : Fields). Some (DFields f, rest)) (fields_back fields)

item_then : (read : Reader Data) (n : ℕ) (d : Data) (ds : List Data) (front after rest : List ℕ) → read (front ++ (after ++ rest)) ≡ Some (d, after ++ rest) → items_at read n (after ++ rest) ≡ Some (ds, rest) → items_at read (n + 1) ((front ++ after) ++ rest) ≡ Some (d ∷ ds, rest)
unfolding items_at
item_then read n d ds front after rest one others =
    let k : n + 1 ≡ suc n = omega arith in
    ap (λ (m : ℕ). items_at read m ((front ++ after) ++ rest)) k ∙ ap (items_at read (suc n)) (append_assoc front after rest)
    ∙ ap (λ o. o >>= λ x. items_at read n x.1 >>= λ xs. Some (x.0 ∷ xs.0, xs.1)) one ∙ ap (λ o. o >>= λ xs. Some (d ∷ xs.0, xs.1)) others

abbrev pair : List ℕ → Data → List ℕ × Data
pair k d = (k, d)

field_then : (read : Reader Data) (n : ℕ) (key : List ℕ) (d : Data) (fs : List (List ℕ × Data)) (key_front front after rest : List ℕ) → text_at (key_front ++ (front ++ (after ++ rest))) ≡ Some (key, front ++ (after ++ rest)) → read (front ++ (after ++ rest)) ≡ Some (d, after ++ rest) → fields_at read n (after ++ rest) ≡ Some (fs, rest)
    → fields_at read (n + 1) (((key_front ++ front) ++ after) ++ rest) ≡ Some (pair key d ∷ fs, rest)
unfolding fields_at
field_then read n key d fs key_front front after rest text one others =
    let k : n + 1 ≡ suc n = omega arith in
    let regrouped : ((key_front ++ front) ++ after) ++ rest ≡ key_front ++ (front ++ (after ++ rest)) = append_assoc (key_front ++ front) after rest ∙ append_assoc key_front front (after ++ rest) in
    ap (λ (m : ℕ). fields_at read m (((key_front ++ front) ++ after) ++ rest)) k ∙ ap (fields_at read (suc n)) regrouped
    ∙ ap (λ o. o >>= λ t. read t.1 >>= λ x. fields_at read n x.1 >>= λ xs. Some (pair t.0 x.0 ∷ xs.0, xs.1)) text ∙ ap (λ o. o >>= λ x. fields_at read n x.1 >>= λ xs. Some (pair key x.0 ∷ xs.0, xs.1)) one ∙ ap (λ o. o >>= λ xs. Some (pair key d ∷ xs.0, xs.1)) others

mutual
  unfolding data_bytes items_bytes fields_bytes IsDataWithin AreItemsWithin AreFieldsWithin IsData AreItems AreFields nesting nesting_items nesting_fields items_at fields_at

  pub data_again : (d : Data) (n : ℕ) (rest : List ℕ) → nesting d ≤ n → IsDataWithin d → IsData d → data_at n (data_bytes d ++ rest) ≡ Some (d, rest)
  data_again DUndefined n rest deep within is = data_is n (0 ∷ rest) 0 rest refl
  data_again DNull n rest deep within is = data_is n (1 ∷ rest) 1 rest refl
  data_again (DTruth false) n rest deep within is = data_is n (2 ∷ rest) 2 rest refl
  data_again (DTruth true) n rest deep within is = data_is n (3 ∷ rest) 3 rest refl
  data_again (DNumber z) n rest deep within is = data_is n (4 ∷ (number_bytes z ++ rest)) 4 (number_bytes z ++ rest) refl ∙ ap (λ o. o >>= λ x. Some (DNumber x.0, x.1)) (whole_again z rest is)
  data_again (DText t) n rest deep within is = data_is n (5 ∷ (text_bytes t ++ rest)) 5 (text_bytes t ++ rest) refl ∙ ap (λ o. o >>= λ x. Some (DText x.0, x.1)) (text_again t rest within is)
  data_again (DList items) zero rest deep within is = absurd (omega arith)
  data_again (DList items) (suc n) rest deep within is =
      let front = (to_be_bytes w32 (count_items items) ++ items_bytes items) ++ rest in
      data_is (suc n) (6 ∷ front) 6 front refl ∙ list_again (data_at n) items rest within.0 (items_again items n rest (omega arith) within.1 is)
  data_again (DFields _) zero rest deep within is = absurd (omega arith)
  data_again (DFields fields) (suc n) rest deep within is =
      let front = (to_be_bytes w32 (count_fields fields) ++ fields_bytes fields) ++ rest in
      data_is (suc n) (7 ∷ front) 7 front refl ∙ fields_again (data_at n) fields rest within.0 is.0 (pairs_again fields n rest (omega arith) within.1 is.1)

  pub items_again : (items : Items) (n : ℕ) (rest : List ℕ) → nesting_items items ≤ n → AreItemsWithin items → AreItems items → items_at (data_at n) (count_items items) (items_bytes items ++ rest) ≡ Some (list_of items, rest)
  items_again NoItems n rest deep within is = refl
  items_again (Item d more) n rest deep within is = item_then (data_at n) (count_items more) d (list_of more) (data_bytes d) (items_bytes more) rest (data_again d n (items_bytes more ++ rest) (omega arith) within.0 is.0) (items_again more n rest (omega arith) within.1 is.1)

  pub pairs_again : (fields : Fields) (n : ℕ) (rest : List ℕ) → nesting_fields fields ≤ n → AreFieldsWithin fields → AreFields fields → fields_at (data_at n) (count_fields fields) (fields_bytes fields ++ rest) ≡ Some (pairs_of fields, rest)
  pairs_again NoFields n rest deep within is = refl
  pairs_again (Field key d more) n rest deep within is = field_then (data_at n) (count_fields more) key d (pairs_of more) (text_bytes key) (data_bytes d) (fields_bytes more) rest (text_again key (data_bytes d ++ (fields_bytes more ++ rest)) within.0 is.0) (data_again d n (fields_bytes more ++ rest) (omega arith) within.1.0 is.1.0) (pairs_again more n rest (omega arith) within.1.1 is.1.1)

-- ---- records and tasks

draw_again : (b v : ℤ) (rest : List ℕ) → IsDraw b v → draw_at ((number_bytes b ++ number_bytes v) ++ rest) ≡ Some (Draw b v, rest)
unfolding draw_at number_bytes
draw_again (pos b) (pos v) rest is =
    let regrouped : (to_be_bytes w64 b ++ to_be_bytes w64 v) ++ rest ≡ to_be_bytes w64 b ++ (to_be_bytes w64 v ++ rest) = append_assoc (to_be_bytes w64 b) (to_be_bytes w64 v) rest in
    let fits : (ltb v b && leb b (2 ^ 53)) ≡ true = rw (lt-ltb v b is.0, le-leb b (2 ^ 53) is.1) refl in
    ap draw_at regrouped ∙ ap (λ o. o >>= λ x. number_at w64 x.1 >>= λ y. cond (ltb y.0 x.0 && leb x.0 (2 ^ 53)) (Some (Draw (pos x.0) (pos y.0), y.1)) None) (number_again w64 (2 ^ 64) holds64 b (to_be_bytes w64 v ++ rest) (omega (arith, is.0, is.1)))
    ∙ ap (λ o. o >>= λ y. cond (ltb y.0 b && leb b (2 ^ 53)) (Some (Draw (pos b) (pos y.0), y.1)) None) (number_again w64 (2 ^ 64) holds64 v rest (omega (arith, is.0, is.1))) ∙ ap (λ t. cond t (Some (Draw (pos b) (pos v), rest)) None) fits
draw_again (pos b) (negsuc v) rest is = absurd is
draw_again (negsuc b) v rest is = absurd is

reply_again : (k t rest : List ℕ) → IsTextWithin k × IsTextWithin t → AreUnits k × AreUnits t → reply_at ((text_bytes k ++ text_bytes t) ++ rest) ≡ Some (Reply k t, rest)
unfolding reply_at
reply_again k t rest within is =
    ap reply_at (append_assoc (text_bytes k) (text_bytes t) rest) ∙ ap (λ o. o >>= λ x. text_at x.1 >>= λ y. Some (Reply x.0 y.0, y.1)) (text_again k (text_bytes t ++ rest) within.0 is.0) ∙ ap (λ o. o >>= λ y. Some (Reply k y.0, y.1)) (text_again t rest within.1 is.1)

body_again : (r : Record) (rest : List ℕ) → IsRecordWithin r → IsRecord r → body_at (kind_of r) (body_bytes r ++ rest) ≡ Some (r, rest)
unfolding body_bytes
body_again (Post t) rest within is = ap (λ o. o >>= λ x. Some (Post x.0, x.1)) (text_again t rest within is)
body_again (Reply k t) rest within is = reply_again k t rest within is
body_again (Draw b v) rest within is = draw_again b v rest within
body_again (Once d) rest within is = ap (λ o. o >>= λ x. Some (Once x.0, x.1)) (data_again d 64 rest within.0 within.1 is)

abbrev entry_of : List ℕ → Record → Entry
entry_of p r = record { path = p; what = r }

pub entry_again : (e : Entry) (rest : List ℕ) → IsWithin e → IsEntry e → entry_at (entry_bytes e ++ rest) ≡ Some (e, rest)
unfolding entry_at entry_bytes
entry_again e rest within is =
    let kind = kind_of e.what in
    let regrouped : (kind ∷ path_bytes e.path ++ body_bytes e.what) ++ rest ≡ kind ∷ (path_bytes e.path ++ (body_bytes e.what ++ rest)) = ap (λ (l : List ℕ). kind ∷ l) (append_assoc (path_bytes e.path) (body_bytes e.what) rest) in
    ap entry_at regrouped ∙ ap (λ o. o >>= λ p. body_at kind p.1 >>= λ r. Some (entry_of p.0 r.0, r.1)) (path_again e.path (body_bytes e.what ++ rest) within.some within.short is.path) ∙ ap (λ o. o >>= λ r. Some (entry_of e.path r.0, r.1)) (body_again e.what rest within.what is.what)

pub task_again : (k t rest : List ℕ) → IsTextWithin k → IsTextWithin t → AreUnits k → AreUnits t → task_at (task_bytes k t ++ rest) ≡ Some ((k, t), rest)
unfolding task_at task_bytes
task_again k t rest k_within t_within k_is t_is =
    ap task_at (append_assoc (text_bytes k) (text_bytes t) rest) ∙ ap (λ o. o >>= λ x. text_at x.1 >>= λ y. task_pair x.0 y) (text_again k (text_bytes t ++ rest) k_within k_is) ∙ ap (λ o. o >>= λ y. task_pair k y) (text_again t rest t_within t_is)
