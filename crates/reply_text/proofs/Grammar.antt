-- A text reads as an array of texts and whole numbers exactly where its tokens are those of one.
use Rattle.std.proofs.Common.{◌≡◌, ℕ, zero, suc, Bool, true, false, List, [], ◌∷◌, length, Option, Some, None, is_some, option_map, option_and_then, refl, sym, ap, ◌∙◌, true≢false}
use Rattle.json.specs.Token.{Token}
use Rattle.json.specs.Json as json
use Rattle.json.specs.Json.{Parse, parse_map, after_end_array, items_step, items, value_with, value, if_last}
use Rattle.json.proofs.Grammar.{closed_array, value_is}
use Rattle.json.specs.Lex.{tokens}
use Rattle.serde_json.specs.Data.{Num, Data, number, string, array, object, Items, no_items, item, Members}
use Rattle.serde_json.specs.Read.{of_json, of_items, of_members, number_of, read, max_depth}
use Rattle.std.proofs.Common.{◌++◌, ◌-◌, ◌≤◌, arith}
use Rattle.json.proofs.Grammar.{items_end, items_more}
use Rattle.serde_json.specs.Data.{unsigned}
use Rattle.reply_text.specs.Leaves.{Leaf, text, whole, AreLeaves, no_leaf, text_leaf, whole_leaf, leaf_items, LineLaw}

never_some : {A : Type 0} (x : A) → None ≡ Some x → ⊥
never_some x e = true≢false (sym (ap is_some e))

-- ---- what a value was read from

abbrev Read : Type 0
Read = Option (json.Json × List Token)

-- the token that a value of one token is
abbrev leaf : json.Json → Token
leaf json.null = Token.null
leaf (json.boolean b) = Token.boolean b
leaf (json.number s) = Token.number s
leaf (json.string s) = Token.string s
leaf (json.array js) = Token.bad
leaf (json.object ms) = Token.bad

abbrev spelled : Read → List Token
spelled None = []
spelled (Some p) = leaf p.0 ∷ p.1

abbrev first_is_bad : List Token → Bool
first_is_bad [] = false
first_is_bad (Token.bad ∷ ts) = true
first_is_bad (_ ∷ ts) = false

abbrev unarray : Read → Option (json.Items × List Token)
unarray None = None
unarray (Some (json.array js, r)) = Some (js, r)
unarray (Some (_, r)) = None

unarray-array : (x : Option (json.Items × List Token)) → unarray (parse_map json.array x) ≡ x
unarray-array None = refl
unarray-array (Some p) = refl

unarray-object : (x : Option (json.Members × List Token)) → unarray (parse_map json.object x) ≡ None
unarray-object None = refl
unarray-object (Some p) = refl

bad_array : (x : Option (json.Items × List Token)) (s : List ℕ) (r : List Token) → parse_map json.array x ≡ Some (json.string s, r) → ⊥
bad_array None s r e = never_some _ e
bad_array (Some p) s r e = true≢false (ap (λ x. first_is_bad (spelled x)) e)

bad_object : (x : Option (json.Members × List Token)) (s : List ℕ) (r : List Token) → parse_map json.object x ≡ Some (json.string s, r) → ⊥
bad_object None s r e = never_some _ e
bad_object (Some p) s r e = true≢false (ap (λ x. first_is_bad (spelled x)) e)

string_from : (a : Parse json.Items) (o : Parse json.Members) (ts r : List Token) (s : List ℕ) → value_with a o ts ≡ Some (json.string s, r) → ts ≡ Token.string s ∷ r
string_from a o [] r s e = absurd (never_some _ e)
string_from a o (Token.begin_object ∷ ts) r s e = absurd (bad_object (o ts) s r e)
string_from a o (Token.end_object ∷ ts) r s e = absurd (never_some _ e)
string_from a o (Token.begin_array ∷ ts) r s e = absurd (bad_array (a ts) s r e)
string_from a o (Token.end_array ∷ ts) r s e = absurd (never_some _ e)
string_from a o (Token.key k ∷ ts) r s e = absurd (never_some _ e)
string_from a o (Token.string k ∷ ts) r s e = ap spelled e
string_from a o (Token.number k ∷ ts) r s e = ap spelled e
string_from a o (Token.boolean b ∷ ts) r s e = ap spelled e
string_from a o (Token.null ∷ ts) r s e = ap spelled e
string_from a o (Token.bad ∷ ts) r s e = absurd (never_some _ e)

array_from : (a : Parse json.Items) (o : Parse json.Members) (ts r : List Token) (js : json.Items) → value_with a o ts ≡ Some (json.array js, r)
    → (us : List Token) × (ts ≡ Token.begin_array ∷ us) × (a us ≡ Some (js, r))
array_from a o [] r js e = absurd (never_some _ e)
array_from a o (Token.begin_object ∷ ts) r js e = absurd (never_some _ (sym (unarray-object (o ts)) ∙ ap unarray e))
array_from a o (Token.end_object ∷ ts) r js e = absurd (never_some _ e)
array_from a o (Token.begin_array ∷ ts) r js e = (ts, refl, sym (unarray-array (a ts)) ∙ ap unarray e)
array_from a o (Token.end_array ∷ ts) r js e = absurd (never_some _ e)
array_from a o (Token.key k ∷ ts) r js e = absurd (never_some _ e)
array_from a o (Token.string k ∷ ts) r js e = absurd (never_some _ (ap unarray e))
array_from a o (Token.number k ∷ ts) r js e = absurd (never_some _ (ap unarray e))
array_from a o (Token.boolean b ∷ ts) r js e = absurd (never_some _ (ap unarray e))
array_from a o (Token.null ∷ ts) r js e = absurd (never_some _ (ap unarray e))
array_from a o (Token.bad ∷ ts) r js e = absurd (never_some _ e)

-- ---- items

abbrev first : Option (json.Items × List Token) → Option json.Json
first None = None
first (Some (json.no_items, r)) = None
first (Some (json.item j js, r)) = Some j

abbrev others : Option (json.Items × List Token) → Option (json.Items × List Token)
others None = None
others (Some (json.no_items, r)) = None
others (Some (json.item j js, r)) = Some (js, r)

first-item : (j : json.Json) (x : Option (json.Items × List Token)) (k : json.Json) (js : json.Items) (r : List Token) → parse_map (json.item j) x ≡ Some (json.item k js, r)
    → (Some j ≡ Some k) × (x ≡ Some (js, r))
first-item j None k js r e = absurd (never_some _ e)
first-item j (Some p) k js r e = (ap first e, ap others e)

more_items : (v : Parse json.Json) (more : Parse json.Items) (ts : List Token) (c : Option (List Token)) (k : json.Json) (js : json.Items) (r : List Token)
    → items_step v more ts c ≡ Some (json.item k js, r) → (m : List Token) × (v ts ≡ Some (k, m)) × (more m ≡ Some (js, r))
more_items v more ts (Some rest) k js r e = absurd (never_some _ (ap first e))
more_items v more ts None k js r e = by (v ts) e
  where
    by : (x : Read) → option_and_then (λ p. parse_map (json.item p.0) (more p.1)) x ≡ Some (json.item k js, r) → (m : List Token) × (x ≡ Some (k, m)) × (more m ≡ Some (js, r))
    by None q = absurd (never_some _ q)
    by (Some p) q = let both = first-item p.0 (more p.1) k js r q in (p.1, ap (option_map (λ j. (j, p.1))) both.0, both.1)

item_from : (v : Parse json.Json) (n : ℕ) (ts : List Token) (k : json.Json) (js : json.Items) (r : List Token)
    → items v n ts ≡ Some (json.item k js, r) → (m : List Token) × (n' : ℕ) × (v ts ≡ Some (k, m)) × (items v n' m ≡ Some (js, r))
unfolding items
item_from v zero ts k js r e = absurd (never_some _ e)
item_from v (suc n) ts k js r e = let got = more_items v (items v n) ts (after_end_array ts) k js r e in (got.0, n, got.1, got.2)

abbrev left_over : Option (json.Items × List Token) → Option (List Token)
left_over None = None
left_over (Some (json.no_items, r)) = Some r
left_over (Some (json.item j js, r)) = None

no_more : (v : Parse json.Json) (more : Parse json.Items) (ts : List Token) (c : Option (List Token)) (r : List Token) → items_step v more ts c ≡ Some (json.no_items, r) → c ≡ Some r
no_more v more ts (Some rest) r e = ap left_over e
no_more v more ts None r e = absurd (by (v ts) e)
  where
    one : (j : json.Json) (x : Option (json.Items × List Token)) → parse_map (json.item j) x ≡ Some (json.no_items, r) → ⊥
    one j None q = never_some _ q
    one j (Some p) q = never_some _ (ap left_over q)

    by : (x : Read) → option_and_then (λ p. parse_map (json.item p.0) (more p.1)) x ≡ Some (json.no_items, r) → ⊥
    by None q = never_some _ q
    by (Some p) q = one p.0 (more p.1) q

end_from : (v : Parse json.Json) (n : ℕ) (ts r : List Token) → items v n ts ≡ Some (json.no_items, r) → ts ≡ Token.end_array ∷ r
unfolding items
end_from v zero ts r e = absurd (never_some _ e)
end_from v (suc n) ts r e = closed_array ts r (no_more v (items v n) ts (after_end_array ts) r e)

string_value : (d : ℕ) (ts r : List Token) (s : List ℕ) → value d ts ≡ Some (json.string s, r) → ts ≡ Token.string s ∷ r
string_value d ts r s e = string_from _ _ ts r s (sym (value_is d ts) ∙ e)

-- ---- the values

abbrev is_string : Option Data → Bool
is_string (Some (string s)) = true
is_string _ = false

abbrev is_array : Option Data → Bool
is_array (Some (array ds)) = true
is_array _ = false

false_true : {A : Type 0} → false ≡ true → A
false_true e = absurd (true≢false (sym e))

abbrev text_in : Option Data → Option (List ℕ)
text_in (Some (string s)) = Some s
text_in _ = None

abbrev items_in : Option Data → Option Items
items_in (Some (array ds)) = Some ds
items_in _ = None

text_in-number : (x : Option Num) → text_in (option_map number x) ≡ None
text_in-number None = refl
text_in-number (Some n) = refl

text_in-array : (x : Option Items) → text_in (option_map array x) ≡ None
text_in-array None = refl
text_in-array (Some n) = refl

text_in-object : (x : Option Members) → text_in (option_map object x) ≡ None
text_in-object None = refl
text_in-object (Some n) = refl

items_in-number : (x : Option Num) → items_in (option_map number x) ≡ None
items_in-number None = refl
items_in-number (Some n) = refl

items_in-array : (x : Option Items) → items_in (option_map array x) ≡ x
items_in-array None = refl
items_in-array (Some n) = refl

items_in-object : (x : Option Members) → items_in (option_map object x) ≡ None
items_in-object None = refl
items_in-object (Some n) = refl

pub some_inj : {A : Type 0} (d : A) (x y : A) → Some x ≡ Some y → x ≡ y
some_inj {A = A} d x y e = ap (λ (o : Option A). or_else d o) e
  where
    or_else : A → Option A → A
    or_else d None = d
    or_else d (Some x) = x

string_json : (j : json.Json) (s : List ℕ) → of_json j ≡ Some (string s) → j ≡ json.string s
string_json json.null s e = absurd (never_some _ (ap text_in e))
string_json (json.boolean b) s e = absurd (never_some _ (ap text_in e))
string_json (json.number t) s e = absurd (never_some _ (sym (text_in-number (number_of t)) ∙ ap text_in e))
string_json (json.string t) s e = ap json.string (some_inj [] t s (ap text_in e))
string_json (json.array js) s e = absurd (never_some _ (sym (text_in-array (of_items js)) ∙ ap text_in e))
string_json (json.object ms) s e = absurd (never_some _ (sym (text_in-object (of_members ms Members.no_members)) ∙ ap text_in e))

array_json : (j : json.Json) (ds : Items) → of_json j ≡ Some (array ds) → (js : json.Items) × (j ≡ json.array js) × (of_items js ≡ Some ds)
array_json json.null s e = absurd (never_some _ (ap items_in e))
array_json (json.boolean b) s e = absurd (never_some _ (ap items_in e))
array_json (json.number t) s e = absurd (never_some _ (sym (items_in-number (number_of t)) ∙ ap items_in e))
array_json (json.string t) s e = absurd (never_some _ (ap items_in e))
array_json (json.array js) s e = (js, refl, sym (items_in-array (of_items js)) ∙ ap items_in e)
array_json (json.object ms) s e = absurd (never_some _ (sym (items_in-object (of_members ms Members.no_members)) ∙ ap items_in e))

abbrev first_data : Option Items → Option Data
first_data None = None
first_data (Some no_items) = None
first_data (Some (item d ds)) = Some d

abbrev other_data : Option Items → Option Items
other_data None = None
other_data (Some no_items) = None
other_data (Some (item d ds)) = Some ds

item_json : (js : json.Items) (d : Data) (ds : Items) → of_items js ≡ Some (item d ds) → (j : json.Json) × (ks : json.Items) × (js ≡ json.item j ks) × (of_json j ≡ Some d) × (of_items ks ≡ Some ds)
item_json json.no_items d ds e = absurd (never_some _ (ap first_data e))
item_json (json.item j ks) d ds e = let both = by (of_json j) (of_items ks) e in (j, ks, refl, both.0, both.1)
  where
    by : (x : Option Data) (y : Option Items) → option_and_then (λ d. option_map (item d) y) x ≡ Some (item d ds) → (x ≡ Some d) × (y ≡ Some ds)
    by None y q = absurd (never_some _ q)
    by (Some x) None q = absurd (never_some _ q)
    by (Some x) (Some y) q = (ap first_data q, ap other_data q)

none_json : (js : json.Items) → of_items js ≡ Some no_items → js ≡ json.no_items
none_json json.no_items e = refl
none_json (json.item j ks) e = absurd (by (of_json j) (of_items ks) e)
  where
    test : Option Items → Bool
    test None = false
    test (Some no_items) = true
    test (Some (item d ds)) = false

    by : (x : Option Data) (y : Option Items) → option_and_then (λ d. option_map (item d) y) x ≡ Some no_items → ⊥
    by None y q = never_some _ q
    by (Some x) None q = never_some _ q
    by (Some x) (Some y) q = true≢false (sym (ap test q))

-- ---- the whole text

abbrev whole_text : Read → Option json.Json
whole_text x = option_and_then (λ p. if_last p.0 p.1) x

last_json : (x : Read) (j : json.Json) → whole_text x ≡ Some j → x ≡ Some (j, [])
last_json None j e = absurd (never_some _ e)
last_json (Some (k, [])) j e = ap (option_map (λ y. (y, []))) e
last_json (Some (k, t ∷ ts)) j e = absurd (never_some _ e)

data_json : (x : Option json.Json) (d : Data) → option_and_then of_json x ≡ Some d → (j : json.Json) × (x ≡ Some j) × (of_json j ≡ Some d)
data_json None d e = absurd (never_some _ e)
data_json (Some j) d e = (j, refl, e)

-- ---- any array of texts and whole numbers

bad_array_number : (x : Option (json.Items × List Token)) (s : List ℕ) (r : List Token) → parse_map json.array x ≡ Some (json.number s, r) → ⊥
bad_array_number None s r e = never_some _ e
bad_array_number (Some p) s r e = true≢false (ap (λ x. first_is_bad (spelled x)) e)

bad_object_number : (x : Option (json.Members × List Token)) (s : List ℕ) (r : List Token) → parse_map json.object x ≡ Some (json.number s, r) → ⊥
bad_object_number None s r e = never_some _ e
bad_object_number (Some p) s r e = true≢false (ap (λ x. first_is_bad (spelled x)) e)

number_from : (a : Parse json.Items) (o : Parse json.Members) (ts r : List Token) (s : List ℕ) → value_with a o ts ≡ Some (json.number s, r) → ts ≡ Token.number s ∷ r
number_from a o [] r s e = absurd (never_some _ e)
number_from a o (Token.begin_object ∷ ts) r s e = absurd (bad_object_number (o ts) s r e)
number_from a o (Token.end_object ∷ ts) r s e = absurd (never_some _ e)
number_from a o (Token.begin_array ∷ ts) r s e = absurd (bad_array_number (a ts) s r e)
number_from a o (Token.end_array ∷ ts) r s e = absurd (never_some _ e)
number_from a o (Token.key k ∷ ts) r s e = absurd (never_some _ e)
number_from a o (Token.string k ∷ ts) r s e = ap spelled e
number_from a o (Token.number k ∷ ts) r s e = ap spelled e
number_from a o (Token.boolean b ∷ ts) r s e = ap spelled e
number_from a o (Token.null ∷ ts) r s e = ap spelled e
number_from a o (Token.bad ∷ ts) r s e = absurd (never_some _ e)

number_value : (d : ℕ) (ts r : List Token) (s : List ℕ) → value d ts ≡ Some (json.number s, r) → ts ≡ Token.number s ∷ r
number_value d ts r s e = number_from _ _ ts r s (sym (value_is d ts) ∙ e)

abbrev number_in : Option Data → Option Num
number_in (Some (number n)) = Some n
number_in _ = None

number_in-number : (x : Option Num) → number_in (option_map number x) ≡ x
number_in-number None = refl
number_in-number (Some n) = refl

number_in-array : (x : Option Items) → number_in (option_map array x) ≡ None
number_in-array None = refl
number_in-array (Some n) = refl

number_in-object : (x : Option Members) → number_in (option_map object x) ≡ None
number_in-object None = refl
number_in-object (Some n) = refl

number_json : (j : json.Json) (n : Num) → of_json j ≡ Some (number n) → (s : List ℕ) × (j ≡ json.number s) × (number_of s ≡ Some n)
number_json json.null n e = absurd (never_some _ (ap number_in e))
number_json (json.boolean b) n e = absurd (never_some _ (ap number_in e))
number_json (json.number t) n e = (t, refl, sym (number_in-number (number_of t)) ∙ ap number_in e)
number_json (json.string t) n e = absurd (never_some _ (ap number_in e))
number_json (json.array js) n e = absurd (never_some _ (sym (number_in-array (of_items js)) ∙ ap number_in e))
number_json (json.object ms) n e = absurd (never_some _ (sym (number_in-object (of_members ms Members.no_members)) ∙ ap number_in e))

-- what was passed is the leaves and the bracket
leaves_from : (d n : ℕ) (us r : List Token) (js : json.Items) (ls : List Leaf) → items (value d) n us ≡ Some (js, r) → of_items js ≡ Some (leaf_items ls)
    → (ts : List Token) × (us ≡ ts ++ Token.end_array ∷ r) × AreLeaves ts ls
leaves_from d n us r js [] e f =
    ([], end_from (value d) n us r (e ∙ ap (λ k. Some (k, r)) (none_json js f)), no_leaf)
leaves_from d n us r js (text s ∷ ls) e f =
    let one = item_json js _ _ f in
    let got = item_from (value d) n us one.0 one.1 r (e ∙ ap (λ k. Some (k, r)) one.2) in
    let more = leaves_from d got.1 got.0 r one.1 ls got.3 one.4 in
    let here = string_value d us got.0 s (got.2 ∙ ap (λ k. Some (k, got.0)) (string_json one.0 s one.3)) in
    (Token.string s ∷ more.0, here ∙ ap (λ l. Token.string s ∷ l) more.1, text_leaf more.2)
leaves_from d n us r js (whole k ∷ ls) e f =
    let one = item_json js _ _ f in
    let got = item_from (value d) n us one.0 one.1 r (e ∙ ap (λ k. Some (k, r)) one.2) in
    let more = leaves_from d got.1 got.0 r one.1 ls got.3 one.4 in
    let num = number_json one.0 (unsigned k) one.3 in
    let here = number_value d us got.0 num.0 (got.2 ∙ ap (λ j. Some (j, got.0)) num.1) in
    (Token.number num.0 ∷ more.0, here ∙ ap (λ l. Token.number num.0 ∷ l) more.1, whole_leaf num.2 more.2)

line_at : (d : ℕ) (ts : List Token) (js : json.Items) (ls : List Leaf) → value (suc d) ts ≡ Some (json.array js, []) → of_items js ≡ Some (leaf_items ls)
    → (us : List Token) × (ts ≡ Token.begin_array ∷ (us ++ Token.end_array ∷ [])) × AreLeaves us ls
unfolding value
line_at d ts js ls e f =
    let list = array_from _ _ ts [] js e in
    let all = leaves_from d (length list.0) list.0 [] js ls list.2 f in
    (all.0, list.1 ∙ ap (λ l. Token.begin_array ∷ l) all.1, all.2)

line_max : (ts : List Token) (js : json.Items) (ls : List Leaf) → value max_depth ts ≡ Some (json.array js, []) → of_items js ≡ Some (leaf_items ls)
    → (us : List Token) × (ts ≡ Token.begin_array ∷ (us ++ Token.end_array ∷ [])) × AreLeaves us ls
line_max = line_at 126

pub tokens_of_leaves : (line : List ℕ) (ls : List Leaf) → read line ≡ Some (array (leaf_items ls))
    → (ts : List Token) × (tokens line ≡ Token.begin_array ∷ (ts ++ Token.end_array ∷ [])) × AreLeaves ts ls
tokens_of_leaves line ls e =
    let got = data_json (whole_text (value max_depth (tokens line))) _ e in
    let list = array_json got.0 _ got.2 in
    line_max (tokens line) list.0 ls (last_json (value max_depth (tokens line)) (json.array list.0) (got.1 ∙ ap Some list.1)) list.2

-- ---- and back

leaves_read : (ts : List Token) (ls : List Leaf) → AreLeaves ts ls
    → (js : json.Items) × (of_items js ≡ Some (leaf_items ls)) × ((d n : ℕ) (r : List Token) → length (ts ++ Token.end_array ∷ r) ≤ n → items (value d) n (ts ++ Token.end_array ∷ r) ≡ Some (js, r))
leaves_read _ _ no_leaf = (json.no_items, refl, λ d n r le. items_end (value d) n (Token.end_array ∷ r) r le refl)
leaves_read _ _ (text_leaf {s = s} {ts = ts} {ls = ls} h) =
    let more = leaves_read ts ls h in (
      json.item (json.string s) more.0,
      ap (λ x. option_map (item (string s)) x) more.1,
      λ d n r le.
          items_more (value d) n (Token.string s ∷ (ts ++ Token.end_array ∷ r)) (ts ++ Token.end_array ∷ r) (json.string s) (omega arith) refl (value_is d (Token.string s ∷ (ts ++ Token.end_array ∷ r)))
          ∙ ap (parse_map (json.item (json.string s))) (more.2 d (n - 1) r (omega arith)),
    )
leaves_read _ _ (whole_leaf {s = s} {n = k} {ts = ts} {ls = ls} e h) =
    let more = leaves_read ts ls h in (
      json.item (json.number s) more.0,
      (λ i. option_and_then (λ d. option_map (item d) (more.1 i)) (option_map number (e i))),
      λ d n r le.
          items_more (value d) n (Token.number s ∷ (ts ++ Token.end_array ∷ r)) (ts ++ Token.end_array ∷ r) (json.number s) (omega arith) refl (value_is d (Token.number s ∷ (ts ++ Token.end_array ∷ r)))
          ∙ ap (parse_map (json.item (json.number s))) (more.2 d (n - 1) r (omega arith)),
    )

line_read : (d : ℕ) (ts : List Token) (ls : List Leaf) → AreLeaves ts ls
    → (js : json.Items) × (of_items js ≡ Some (leaf_items ls)) × (value (suc d) (Token.begin_array ∷ (ts ++ Token.end_array ∷ [])) ≡ Some (json.array js, []))
unfolding value
line_read d ts ls h =
    let got = leaves_read ts ls h in
    (got.0, got.1, ap (parse_map json.array) (got.2 d (length (ts ++ Token.end_array ∷ [])) [] (omega arith)))

line_read_max : (ts : List Token) (ls : List Leaf) → AreLeaves ts ls
    → (js : json.Items) × (of_items js ≡ Some (leaf_items ls)) × (value max_depth (Token.begin_array ∷ (ts ++ Token.end_array ∷ [])) ≡ Some (json.array js, []))
line_read_max = line_read 126

pub leaves_of_tokens : (line : List ℕ) (ts : List Token) (ls : List Leaf) → tokens line ≡ Token.begin_array ∷ (ts ++ Token.end_array ∷ []) → AreLeaves ts ls
    → read line ≡ Some (array (leaf_items ls))
leaves_of_tokens line ts ls e h =
    let got = line_read_max ts ls h in
    ap (λ us. option_and_then of_json (whole_text (value max_depth us))) e ∙ ap (λ x. option_and_then of_json (whole_text x)) got.2 ∙ ap (option_map array) got.1

pub line_law : LineLaw
line_law line ls u =
    (λ e. let t = tokens_of_leaves line ls e in (u, t.0, t.1, t.2), λ h. leaves_of_tokens line h.1 ls h.2 h.3)
