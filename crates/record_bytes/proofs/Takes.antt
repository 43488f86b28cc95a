-- What is read is spelled so, within the limits.
use Rattle.std.proofs.Common.{◌≡◌, ℕ, zero, suc, ◌+◌, ◌-◌, ◌^◌, ◌<◌, ◌≤◌, Bool, true, false, cond, ◌&&◌, ltb, leb, List, [], ◌∷◌, ◌++◌, length, get_or, take, drop, Option, Some, None, refl, sym, ap, subst, ◌∙◌, append_assoc, arith, inl, inr}
use Rattle.std.specs.Prelude.{ℤ, pos, negsuc, map}
use Rattle.std.specs.List.{flat_map, AllByRecursion}
use Rattle.std.specs.Int.{Width, w16, w32, w64, byte_len, from_be_bytes, to_be_bytes}
use Rattle.std.proofs.lemmas.Bool.{cases_lt, ltb-false, ltb-true, leb-true}
use Rattle.std.proofs.lemmas.Int.{ints}
use Rattle.std.proofs.lemmas.List.{take-append-drop, length-take, get_or-drop, get_or-take, get_or_past, append-nil}
use Rattle.std.proofs.lemmas.List.Concat.{flat_map-cons}
use Rattle.std.proofs.lemmas.Nat.{be_bytes_2, be_bytes_4, be_bytes_8}
use Rattle.turk_base.specs.Whole.{IsWhole}
use Rattle.turk_base.specs.Data.{Data, DUndefined, DNull, DTruth, DNumber, DText, DList, DFields, items_of, fields_of, nesting, nesting_items, nesting_fields, IsDistinctKeys}
use Rattle.turk_base.specs.declared.Entry.{Entry}
use Rattle.turk_base.specs.declared.Record.{Record}
use Rattle.turk_base.specs.declared.Record.TheVariants.{Post, Reply, Draw, Once}
use Rattle.record_bytes.specs.Spelling.{text_bytes, path_bytes, twos_complement, number_bytes, count_items, count_fields, data_bytes, items_bytes, fields_bytes, kind_of, body_bytes, entry_bytes, task_bytes}
use Rattle.record_bytes.specs.Limits.{IsTextWithin, AreUnits, IsDataWithin, AreItemsWithin, AreFieldsWithin, IsRecordWithin, IsWithin, IsData, AreItems, AreFields, IsRecord, IsEntry, Spells, SpellsTask}
use Rattle.record_bytes.specs.Reading.{◌>>=◌, Reader, number_at, numbers_at, text_at, path_at, whole_from, whole_at, are_distinct, items_at, fields_at, list_with, fields_with, tagged_at, data_with, data_at, draw_at, reply_at, body_at, entry_at, task_pair, task_at, only, whole}
use Rattle.record_bytes.proofs.Parts.{count_items_of, count_fields_of, keys_fields_of, distinct_by_test}

abbrev pub IsBytes : List ℕ → Type 0
IsBytes bytes = (i : ℕ) → get_or bytes i 0 < 256

IsBytes-drop : (n : ℕ) (bytes : List ℕ) → IsBytes bytes → IsBytes (drop n bytes)
IsBytes-drop n bytes h i = rw get_or-drop (h (n + i))

IsBytes-take : (n : ℕ) (bytes : List ℕ) → IsBytes bytes → IsBytes (take n bytes)
IsBytes-take n bytes h i =
    elim (cases_lt i n) [
      | inl lt ↦ rw (get_or-take n bytes i 0 lt) (h i)
      | inr le ↦ rw (get_or_past (take n bytes) i 0 (omega (arith, length-take n bytes))) (omega arith)
    ]

pub IsBytes-rest : (b : ℕ) (bytes : List ℕ) → IsBytes (b ∷ bytes) → IsBytes bytes
IsBytes-rest b bytes h i = h (suc i)

-- the value of a step that gave one
bind_some : {A B : Type 0} (o : Option A) (f : A → Option B) (y : B) → (o >>= f) ≡ Some y → (x : A) × (o ≡ Some x) × (f x ≡ Some y)
bind_some (Some x) f y e = (x, refl, e)
bind_some None f y e = absurd cc

-- a test that held
guard_some : {A : Type 0} (b : Bool) (o : Option A) (y : A) → cond b o None ≡ Some y → (b ≡ true) × (o ≡ Some y)
guard_some true o y e = (refl, e)
guard_some false o y e = absurd cc

some_is : {A : Type 0} (x y : A) → Some x ≡ Some y → x ≡ y
some_is x y e = cc

both_true : (a b : Bool) → (a && b) ≡ true → (a ≡ true) × (b ≡ true)
both_true true b e = (refl, e)
both_true false b e = absurd cc

-- what a reader took from the front
pub record Takes (bytes text rest : List ℕ) : Type 0 where
  pub parts : bytes ≡ text ++ rest
  pub rest_fits : IsBytes rest

Takes-then : (a x b y c : List ℕ) → Takes a x b → Takes b y c → Takes a (x ++ y) c
Takes-then a x b y c p q = record { parts = p.parts ∙ ap (λ (t : List ℕ). x ++ t) q.parts ∙ sym (append_assoc x y c); rest_fits = q.rest_fits }

Takes-behind : (b : ℕ) (bytes x rest : List ℕ) → Takes bytes x rest → Takes (b ∷ bytes) (b ∷ x) rest
Takes-behind b bytes x rest p = record { parts = ap (λ (l : List ℕ). b ∷ l) p.parts; rest_fits = p.rest_fits }

-- ---- numbers

pub record IsWide (w : Width) (limit : ℕ) : Type 0 where
  pub back : (bytes : List ℕ) → length bytes ≡ byte_len w → IsBytes bytes → to_be_bytes w (from_be_bytes w bytes) ≡ bytes
  pub under : (bytes : List ℕ) → IsBytes bytes → from_be_bytes w bytes < limit

wide16 : IsWide w16 (2 ^ 16)
wide16 = record { back = λ bytes len fits. be_bytes_2 bytes _ len fits refl; under = λ bytes fits. omega (arith, fits 0, fits 1) }

wide32 : IsWide w32 (2 ^ 32)
wide32 = record { back = λ bytes len fits. be_bytes_4 bytes _ len fits refl; under = λ bytes fits. omega (arith, fits 0, fits 1, fits 2, fits 3) }

pub wide64 : IsWide w64 (2 ^ 64)
wide64 = record { back = λ bytes len fits. be_bytes_8 bytes _ len fits refl; under = λ bytes fits. omega (arith, fits 0, fits 1, fits 2, fits 3, fits 4, fits 5, fits 6, fits 7) }

guard_none : {A : Type 0} (b : Bool) (x y : A) → cond b None (Some x) ≡ Some y → (b ≡ false) × (x ≡ y)
guard_none true x y e = absurd cc
guard_none false x y e = (refl, cc)

pub number_takes : (w : Width) (limit : ℕ) (wide : IsWide w limit) (bytes : List ℕ) (n : ℕ) (rest : List ℕ) → IsBytes bytes → number_at w bytes ≡ Some (n, rest) → Takes bytes (to_be_bytes w n) rest × (n < limit)
number_takes w limit wide bytes n rest fits e =
    let g = guard_none (ltb (length bytes) (byte_len w)) (from_be_bytes w (take (byte_len w) bytes), drop (byte_len w) bytes) (n, rest) e in
    let long : byte_len w ≤ length bytes = ltb-false _ _ g.0 in
    let n-is : from_be_bytes w (take (byte_len w) bytes) ≡ n = ap (λ (p : ℕ × List ℕ). p.0) g.1 in
    let rest-is : drop (byte_len w) bytes ≡ rest = ap (λ (p : ℕ × List ℕ). p.1) g.1 in
    let front : to_be_bytes w n ≡ take (byte_len w) bytes = rw (← n-is) (wide.back (take (byte_len w) bytes) (omega (arith, length-take (byte_len w) bytes)) (IsBytes-take (byte_len w) bytes fits)) in
    (record { parts = rw (front, ← rest-is) (sym (take-append-drop (byte_len w) bytes)); rest_fits = rw (← rest-is) (IsBytes-drop (byte_len w) bytes fits) }, rw (← n-is) (wide.under (take (byte_len w) bytes) (IsBytes-take (byte_len w) bytes fits)))

record TakesNumbers (w : Width) (limit n : ℕ) (bytes xs rest : List ℕ) : Type 0 where
  pub takes : Takes bytes (flat_map (to_be_bytes w) xs) rest
  pub count : length xs ≡ n
  pub fit : AllByRecursion (λ x. x < limit) xs

numbers_takes : (w : Width) (limit : ℕ) (wide : IsWide w limit) (n : ℕ) (bytes xs rest : List ℕ) → IsBytes bytes → numbers_at w n bytes ≡ Some (xs, rest) → TakesNumbers w limit n bytes xs rest
unfolding numbers_at
numbers_takes w limit wide zero bytes xs rest fits e =
    let is = some_is ([], bytes) (xs, rest) e in
    subst (λ (y : List ℕ × List ℕ). TakesNumbers w limit 0 bytes y.0 y.1) is (record { takes = record { parts = refl; rest_fits = fits }; count = refl; fit = tt })
numbers_takes w limit wide (suc n) bytes xs rest fits e =
    let a = bind_some (number_at w bytes) (λ x. numbers_at w n x.1 >>= λ ys. Some (x.0 ∷ ys.0, ys.1)) (xs, rest) e in
    let b = bind_some (numbers_at w n a.0.1) (λ ys. Some (a.0.0 ∷ ys.0, ys.1)) (xs, rest) a.2 in
    let first = number_takes w limit wide bytes a.0.0 a.0.1 fits a.1 in
    let second = numbers_takes w limit wide n a.0.1 b.0.0 b.0.1 first.0.rest_fits b.1 in
    let both = Takes-then bytes (to_be_bytes w a.0.0) a.0.1 (flat_map (to_be_bytes w) b.0.0) b.0.1 first.0 second.takes in
    let is = some_is (a.0.0 ∷ b.0.0, b.0.1) (xs, rest) b.2 in
    subst (λ (y : List ℕ × List ℕ). TakesNumbers w limit (suc n) bytes y.0 y.1) is (record { takes = rw flat_map-cons both; count = ap suc second.count; fit = (first.1, second.fit) })

-- ---- texts and paths

pub record TakesText (bytes t rest : List ℕ) : Type 0 where
  pub takes : Takes bytes (text_bytes t) rest
  pub within : IsTextWithin t
  pub units : AreUnits t

pub text_takes : (bytes t rest : List ℕ) → IsBytes bytes → text_at bytes ≡ Some (t, rest) → TakesText bytes t rest
unfolding text_at text_bytes
text_takes bytes t rest fits e =
    let a = bind_some (number_at w32 bytes) (λ n. cond (leb n.0 1048576) (numbers_at w16 n.0 n.1) None) (t, rest) e in
    let g = guard_some (leb a.0.0 1048576) (numbers_at w16 a.0.0 a.0.1) (t, rest) a.2 in
    let first = number_takes w32 (2 ^ 32) wide32 bytes a.0.0 a.0.1 fits a.1 in
    let second = numbers_takes w16 (2 ^ 16) wide16 a.0.0 a.0.1 t rest first.0.rest_fits g.1 in
    let both = Takes-then bytes (to_be_bytes w32 a.0.0) a.0.1 (flat_map (to_be_bytes w16) t) rest first.0 second.takes in
    record { takes = subst (λ (k : ℕ). Takes bytes (to_be_bytes w32 k ++ flat_map (to_be_bytes w16) t) rest) (sym second.count) both; within = omega (arith, second.count, leb-true _ _ g.0); units = second.fit }

pub record TakesPath (bytes p rest : List ℕ) : Type 0 where
  pub takes : Takes bytes (path_bytes p) rest
  pub some : 0 < length p
  pub short : length p ≤ 800
  pub indexes : AllByRecursion (λ i. i < 2 ^ 32) p

path_takes : (bytes p rest : List ℕ) → IsBytes bytes → path_at bytes ≡ Some (p, rest) → TakesPath bytes p rest
unfolding path_at path_bytes
path_takes bytes p rest fits e =
    let a = bind_some (number_at w16 bytes) (λ n. cond (ltb 0 n.0 && leb n.0 800) (numbers_at w32 n.0 n.1) None) (p, rest) e in
    let g = guard_some (ltb 0 a.0.0 && leb a.0.0 800) (numbers_at w32 a.0.0 a.0.1) (p, rest) a.2 in
    let tests = both_true (ltb 0 a.0.0) (leb a.0.0 800) g.0 in
    let first = number_takes w16 (2 ^ 16) wide16 bytes a.0.0 a.0.1 fits a.1 in
    let second = numbers_takes w32 (2 ^ 32) wide32 a.0.0 a.0.1 p rest first.0.rest_fits g.1 in
    let both = Takes-then bytes (to_be_bytes w16 a.0.0) a.0.1 (flat_map (to_be_bytes w32) p) rest first.0 second.takes in
    record { takes = subst (λ (k : ℕ). Takes bytes (to_be_bytes w16 k ++ flat_map (to_be_bytes w32) p) rest) (sym second.count) both; some = omega (arith, second.count, ltb-true _ _ tests.0); short = omega (arith, second.count, leb-true _ _ tests.1); indexes = second.fit }

-- ---- numbers of the language

whole_takes_bits : (n : ℕ) (z : ℤ) → n < 2 ^ 64 → whole_from n ≡ Some z → (twos_complement z ≡ n) × IsWhole z
whole_takes_bits n z lt e = by_low (leb n (2 ^ 53)) refl e
  where
    by_high : (b : Bool) → leb (2 ^ 64 - 2 ^ 53) n ≡ b → cond b (Some (negsuc (2 ^ 64 - 1 - n))) None ≡ Some z → (twos_complement z ≡ n) × IsWhole z
    by_high true is h =
        let far : 2 ^ 64 - 2 ^ 53 ≤ n = leb-true _ _ is in
        subst (λ (y : ℤ). (twos_complement y ≡ n) × IsWhole y) (some_is (negsuc (2 ^ 64 - 1 - n)) z h) (omega arith, record { low = omega (arith, ints); high = omega (arith, ints) })
    by_high false is h = absurd (cc)

    by_low : (b : Bool) → leb n (2 ^ 53) ≡ b → cond b (Some (pos n)) (cond (leb (2 ^ 64 - 2 ^ 53) n) (Some (negsuc (2 ^ 64 - 1 - n))) None) ≡ Some z → (twos_complement z ≡ n) × IsWhole z
    by_low true is h =
        let near : n ≤ 2 ^ 53 = leb-true _ _ is in
        subst (λ (y : ℤ). (twos_complement y ≡ n) × IsWhole y) (some_is (pos n) z h) (refl, record { low = omega (arith, ints); high = omega (arith, ints) })
    by_low false is h = by_high (leb (2 ^ 64 - 2 ^ 53) n) refl h

whole_takes : (bytes : List ℕ) (z : ℤ) (rest : List ℕ) → IsBytes bytes → whole_at bytes ≡ Some (z, rest) → Takes bytes (number_bytes z) rest × IsWhole z
unfolding whole_at number_bytes
whole_takes bytes z rest fits e =
    let a = bind_some (number_at w64 bytes) (λ n. whole_from n.0 >>= λ x. Some (x, n.1)) (z, rest) e in
    let b = bind_some (whole_from a.0.0) (λ x. Some (x, a.0.1)) (z, rest) a.2 in
    let first = number_takes w64 (2 ^ 64) wide64 bytes a.0.0 a.0.1 fits a.1 in
    let is = some_is (b.0, a.0.1) (z, rest) b.2 in
    let bits = whole_takes_bits a.0.0 b.0 first.1 b.1 in
    subst (λ (y : ℤ × List ℕ). Takes bytes (to_be_bytes w64 (twos_complement y.0)) y.1 × IsWhole y.0) is (subst (λ (k : ℕ). Takes bytes (to_be_bytes w64 k) a.0.1) (sym bits.0) first.0, bits.1)

-- ---- data

record TakesData (n : ℕ) (bytes : List ℕ) (d : Data) (rest : List ℕ) : Type 0 where
  pub takes : Takes bytes (data_bytes d) rest
  pub deep : nesting d ≤ n
  pub within : IsDataWithin d
  pub typed : IsData d

-- what a reader of data gives
abbrev ReadsData : ℕ → Reader Data → Type 0
ReadsData n read = (bytes : List ℕ) (d : Data) (rest : List ℕ) → IsBytes bytes → read bytes ≡ Some (d, rest) → TakesData n bytes d rest

record TakesItems (n count : ℕ) (bytes : List ℕ) (ds : List Data) (rest : List ℕ) : Type 0 where
  pub takes : Takes bytes (items_bytes (items_of ds)) rest
  pub count_is : length ds ≡ count
  pub deep : nesting_items (items_of ds) ≤ n
  pub within : AreItemsWithin (items_of ds)
  pub typed : AreItems (items_of ds)

items_takes : (n : ℕ) (read : Reader Data) → ReadsData n read → (count : ℕ) (bytes : List ℕ) (ds : List Data) (rest : List ℕ) → IsBytes bytes → items_at read count bytes ≡ Some (ds, rest) → TakesItems n count bytes ds rest
unfolding items_at items_bytes nesting_items AreItemsWithin AreItems
items_takes n read reads zero bytes ds rest fits e =
    subst (λ (y : List Data × List ℕ). TakesItems n 0 bytes y.0 y.1) (some_is ([], bytes) (ds, rest) e) (record { takes = record { parts = refl; rest_fits = fits }; count_is = refl; deep = omega arith; within = tt; typed = tt })
items_takes n read reads (suc count) bytes ds rest fits e =
    let a = bind_some (read bytes) (λ x. items_at read count x.1 >>= λ ys. Some (x.0 ∷ ys.0, ys.1)) (ds, rest) e in
    let b = bind_some (items_at read count a.0.1) (λ ys. Some (a.0.0 ∷ ys.0, ys.1)) (ds, rest) a.2 in
    let first = reads bytes a.0.0 a.0.1 fits a.1 in
    let second = items_takes n read reads count a.0.1 b.0.0 b.0.1 first.takes.rest_fits b.1 in
    let both = Takes-then bytes (data_bytes a.0.0) a.0.1 (items_bytes (items_of b.0.0)) b.0.1 first.takes second.takes in
    subst (λ (y : List Data × List ℕ). TakesItems n (suc count) bytes y.0 y.1) (some_is (a.0.0 ∷ b.0.0, b.0.1) (ds, rest) b.2)
    (record { takes = both; count_is = ap suc second.count_is; deep = omega (arith, first.deep, second.deep); within = (first.within, second.within); typed = (first.typed, second.typed) })

record TakesFields (n count : ℕ) (bytes : List ℕ) (fs : List (List ℕ × Data)) (rest : List ℕ) : Type 0 where
  pub takes : Takes bytes (fields_bytes (fields_of fs)) rest
  pub count_is : length fs ≡ count
  pub deep : nesting_fields (fields_of fs) ≤ n
  pub within : AreFieldsWithin (fields_of fs)
  pub typed : AreFields (fields_of fs)

abbrev pair : List ℕ → Data → List ℕ × Data
pair k d = (k, d)

fields_takes : (n : ℕ) (read : Reader Data) → ReadsData n read → (count : ℕ) (bytes : List ℕ) (fs : List (List ℕ × Data)) (rest : List ℕ) → IsBytes bytes → fields_at read count bytes ≡ Some (fs, rest) → TakesFields n count bytes fs rest
unfolding fields_at fields_bytes nesting_fields AreFieldsWithin AreFields
fields_takes n read reads zero bytes fs rest fits e =
    subst (λ (y : List (List ℕ × Data) × List ℕ). TakesFields n 0 bytes y.0 y.1) (some_is ([], bytes) (fs, rest) e) (record { takes = record { parts = refl; rest_fits = fits }; count_is = refl; deep = omega arith; within = tt; typed = tt })
fields_takes n read reads (suc count) bytes fs rest fits e =
    let t = bind_some (text_at bytes) (λ k. read k.1 >>= λ d. fields_at read count d.1 >>= λ ys. Some (pair k.0 d.0 ∷ ys.0, ys.1)) (fs, rest) e in
    let a = bind_some (read t.0.1) (λ d. fields_at read count d.1 >>= λ ys. Some (pair t.0.0 d.0 ∷ ys.0, ys.1)) (fs, rest) t.2 in
    let b = bind_some (fields_at read count a.0.1) (λ ys. Some (pair t.0.0 a.0.0 ∷ ys.0, ys.1)) (fs, rest) a.2 in
    let key = text_takes bytes t.0.0 t.0.1 fits t.1 in
    let first = reads t.0.1 a.0.0 a.0.1 key.takes.rest_fits a.1 in
    let second = fields_takes n read reads count a.0.1 b.0.0 b.0.1 first.takes.rest_fits b.1 in
    let one = Takes-then bytes (text_bytes t.0.0) t.0.1 (data_bytes a.0.0) a.0.1 key.takes first.takes in
    let both = Takes-then bytes (text_bytes t.0.0 ++ data_bytes a.0.0) a.0.1 (fields_bytes (fields_of b.0.0)) b.0.1 one second.takes in
    subst (λ (y : List (List ℕ × Data) × List ℕ). TakesFields n (suc count) bytes y.0 y.1) (some_is (pair t.0.0 a.0.0 ∷ b.0.0, b.0.1) (fs, rest) b.2)
    (record { takes = both; count_is = ap suc second.count_is; deep = omega (arith, first.deep, second.deep); within = (key.within, (first.within, second.within)); typed = (key.units, (first.typed, second.typed)) })

record TakesTagged (n tag : ℕ) (bytes : List ℕ) (d : Data) (rest : List ℕ) : Type 0 where
  pub takes : Takes (tag ∷ bytes) (data_bytes d) rest
  pub deep : nesting d ≤ n
  pub within : IsDataWithin d
  pub typed : IsData d

list_takes : (n : ℕ) (read : Reader Data) → ReadsData n read → (bytes : List ℕ) (d : Data) (rest : List ℕ) → IsBytes bytes → list_with read bytes ≡ Some (d, rest) → TakesTagged (suc n) 6 bytes d rest
unfolding list_with data_bytes items_bytes nesting nesting_items IsDataWithin IsData AreItems AreItemsWithin
list_takes n read reads bytes d rest fits e =
    let a = bind_some (number_at w32 bytes) (λ c. cond (leb c.0 1000000) (items_at read c.0 c.1 >>= λ ds. Some (DList (items_of ds.0), ds.1)) None) (d, rest) e in
    let g = guard_some (leb a.0.0 1000000) (items_at read a.0.0 a.0.1 >>= λ ds. Some (DList (items_of ds.0), ds.1)) (d, rest) a.2 in
    let b = bind_some (items_at read a.0.0 a.0.1) (λ ds. Some (DList (items_of ds.0), ds.1)) (d, rest) g.1 in
    let first = number_takes w32 (2 ^ 32) wide32 bytes a.0.0 a.0.1 fits a.1 in
    let second = items_takes n read reads a.0.0 a.0.1 b.0.0 b.0.1 first.0.rest_fits b.1 in
    let items = items_of b.0.0 in
    let count : count_items items ≡ a.0.0 = count_items_of b.0.0 ∙ second.count_is in
    let both = Takes-behind 6 bytes (to_be_bytes w32 a.0.0 ++ items_bytes items) b.0.1 (Takes-then bytes (to_be_bytes w32 a.0.0) a.0.1 (items_bytes items) b.0.1 first.0 second.takes) in
    subst (λ (y : Data × List ℕ). TakesTagged (suc n) 6 bytes y.0 y.1) (some_is (DList items, b.0.1) (d, rest) b.2)
    (record { takes = subst (λ (k : ℕ). Takes (6 ∷ bytes) (6 ∷ (to_be_bytes w32 k ++ items_bytes items)) b.0.1) (sym count) both; deep = omega (arith, second.deep); within = (omega (arith, count, leb-true _ _ g.0), second.within); typed = second.typed })

all_fields_take : (n : ℕ) (read : Reader Data) → ReadsData n read → (bytes : List ℕ) (d : Data) (rest : List ℕ) → IsBytes bytes → fields_with read bytes ≡ Some (d, rest) → TakesTagged (suc n) 7 bytes d rest
unfolding fields_with data_bytes fields_bytes nesting nesting_fields IsDataWithin IsData AreFields AreFieldsWithin
all_fields_take n read reads bytes d rest fits e =
    let a = bind_some (number_at w32 bytes) (λ c. fields_at read c.0 c.1 >>= λ fs. cond (are_distinct (map (λ f. f.0) fs.0)) (Some (DFields (fields_of fs.0), fs.1)) None) (d, rest) e in
    let b = bind_some (fields_at read a.0.0 a.0.1) (λ fs. cond (are_distinct (map (λ f. f.0) fs.0)) (Some (DFields (fields_of fs.0), fs.1)) None) (d, rest) a.2 in
    let g = guard_some (are_distinct (map (λ f. f.0) b.0.0)) (Some (DFields (fields_of b.0.0), b.0.1)) (d, rest) b.2 in
    let first = number_takes w32 (2 ^ 32) wide32 bytes a.0.0 a.0.1 fits a.1 in
    let second = fields_takes n read reads a.0.0 a.0.1 b.0.0 b.0.1 first.0.rest_fits b.1 in
    let fields = fields_of b.0.0 in
    let count : count_fields fields ≡ a.0.0 = count_fields_of b.0.0 ∙ second.count_is in
    let both = Takes-behind 7 bytes (to_be_bytes w32 a.0.0 ++ fields_bytes fields) b.0.1 (Takes-then bytes (to_be_bytes w32 a.0.0) a.0.1 (fields_bytes fields) b.0.1 first.0 second.takes) in
    subst (λ (y : Data × List ℕ). TakesTagged (suc n) 7 bytes y.0 y.1) (some_is (DFields fields, b.0.1) (d, rest) g.1)
    (record { takes = subst (λ (k : ℕ). Takes (7 ∷ bytes) (7 ∷ (to_be_bytes w32 k ++ fields_bytes fields)) b.0.1) (sym count) both; deep = omega (arith, second.deep); within = (omega (arith, count, first.1), second.within); typed = (subst IsDistinctKeys (sym (keys_fields_of b.0.0)) (distinct_by_test (map (λ f. f.0) b.0.0) g.0), second.typed) })

abbrev gave : Data → List ℕ → Option (Data × List ℕ)
gave d rest = Some (d, rest)

-- a primitive that is its tag alone
plain_takes : (n tag : ℕ) (bytes : List ℕ) (p d : Data) (rest : List ℕ) → IsBytes bytes → data_bytes p ≡ tag ∷ [] → nesting p ≡ 0 → IsDataWithin p → IsData p → gave p bytes ≡ gave d rest → TakesTagged n tag bytes d rest
plain_takes n tag bytes p d rest fits spelled flat within typed e =
    subst (λ (y : Data × List ℕ). TakesTagged n tag bytes y.0 y.1) (some_is (p, bytes) (d, rest) e) (record { takes = record { parts = rw spelled refl; rest_fits = fits }; deep = omega (arith, flat); within = within; typed = typed })

-- the reader of the parts, if there is one, is that of one nesting less
abbrev ReadsParts : Option (Reader Data) → ℕ → Type 0
ReadsParts None n = Unit {0}
ReadsParts (Some read) zero = ⊥
ReadsParts (Some read) (suc n) = ReadsData n read

-- data behind its tag, where the reader of its parts is that of one nesting less
tagged_takes : (parts : Option (Reader Data)) (n : ℕ) → ReadsParts parts n → (tag : ℕ) (bytes : List ℕ) (d : Data) (rest : List ℕ) → IsBytes bytes → tagged_at parts tag bytes ≡ Some (d, rest) → TakesTagged n tag bytes d rest
unfolding data_bytes nesting IsDataWithin IsData
tagged_takes parts n reads zero bytes d rest fits e = plain_takes n 0 bytes DUndefined d rest fits refl refl tt tt e
tagged_takes parts n reads (suc zero) bytes d rest fits e = plain_takes n 1 bytes DNull d rest fits refl refl tt tt e
tagged_takes parts n reads (suc (suc zero)) bytes d rest fits e = plain_takes n 2 bytes (DTruth false) d rest fits refl refl tt tt e
tagged_takes parts n reads (suc (suc (suc zero))) bytes d rest fits e = plain_takes n 3 bytes (DTruth true) d rest fits refl refl tt tt e
tagged_takes parts n reads (suc (suc (suc (suc zero)))) bytes d rest fits e =
    let a = bind_some (whole_at bytes) (λ z. Some (DNumber z.0, z.1)) (d, rest) e in
    let first = whole_takes bytes a.0.0 a.0.1 fits a.1 in
    subst (λ (y : Data × List ℕ). TakesTagged n 4 bytes y.0 y.1) (some_is (DNumber a.0.0, a.0.1) (d, rest) a.2) (record { takes = Takes-behind 4 bytes (number_bytes a.0.0) a.0.1 first.0; deep = omega arith; within = tt; typed = first.1 })
tagged_takes parts n reads (suc (suc (suc (suc (suc zero))))) bytes d rest fits e =
    let a = bind_some (text_at bytes) (λ t. Some (DText t.0, t.1)) (d, rest) e in
    let first = text_takes bytes a.0.0 a.0.1 fits a.1 in
    subst (λ (y : Data × List ℕ). TakesTagged n 5 bytes y.0 y.1) (some_is (DText a.0.0, a.0.1) (d, rest) a.2) (record { takes = Takes-behind 5 bytes (text_bytes a.0.0) a.0.1 first.takes; deep = omega arith; within = first.within; typed = first.units })
tagged_takes None n reads (suc (suc (suc (suc (suc (suc zero)))))) bytes d rest fits e = absurd cc
tagged_takes (Some read) zero reads (suc (suc (suc (suc (suc (suc zero)))))) bytes d rest fits e = absurd reads
tagged_takes (Some read) (suc n) reads (suc (suc (suc (suc (suc (suc zero)))))) bytes d rest fits e = list_takes n read reads bytes d rest fits e
tagged_takes None n reads (suc (suc (suc (suc (suc (suc (suc zero))))))) bytes d rest fits e = absurd cc
tagged_takes (Some read) zero reads (suc (suc (suc (suc (suc (suc (suc zero))))))) bytes d rest fits e = absurd reads
tagged_takes (Some read) (suc n) reads (suc (suc (suc (suc (suc (suc (suc zero))))))) bytes d rest fits e = all_fields_take n read reads bytes d rest fits e
tagged_takes parts n reads (suc (suc (suc (suc (suc (suc (suc (suc tag)))))))) bytes d rest fits e = absurd cc

data_by_tag : (n : ℕ) (parts : Option (Reader Data)) → ReadsParts parts n → (bytes : List ℕ) (d : Data) (rest : List ℕ) → IsBytes bytes → data_with parts bytes ≡ Some (d, rest) → TakesData n bytes d rest
data_by_tag n parts reads [] d rest fits e = absurd cc
data_by_tag n parts reads (tag ∷ bytes) d rest fits e =
    let t = tagged_takes parts n reads tag bytes d rest (IsBytes-rest tag bytes fits) e in
    record { takes = t.takes; deep = t.deep; within = t.within; typed = t.typed }

data_takes : (n : ℕ) → ReadsData n (data_at n)
unfolding data_at
data_takes zero = data_by_tag 0 None tt
data_takes (suc n) = data_by_tag (suc n) (Some (data_at n)) (data_takes n)

-- ---- records and tasks

draw_takes : (bytes : List ℕ) (r : Record) (rest : List ℕ) → IsBytes bytes → draw_at bytes ≡ Some (r, rest) → Takes bytes (body_bytes r) rest × IsRecordWithin r × IsRecord r × (kind_of r ≡ 3)
unfolding draw_at body_bytes number_bytes
draw_takes bytes r rest fits e =
    let a = bind_some (number_at w64 bytes) (λ x. number_at w64 x.1 >>= λ y. cond (ltb y.0 x.0 && leb x.0 (2 ^ 53)) (Some (Draw (pos x.0) (pos y.0), y.1)) None) (r, rest) e in
    let b = bind_some (number_at w64 a.0.1) (λ y. cond (ltb y.0 a.0.0 && leb a.0.0 (2 ^ 53)) (Some (Draw (pos a.0.0) (pos y.0), y.1)) None) (r, rest) a.2 in
    let g = guard_some (ltb b.0.0 a.0.0 && leb a.0.0 (2 ^ 53)) (Some (Draw (pos a.0.0) (pos b.0.0), b.0.1)) (r, rest) b.2 in
    let tests = both_true (ltb b.0.0 a.0.0) (leb a.0.0 (2 ^ 53)) g.0 in
    let first = number_takes w64 (2 ^ 64) wide64 bytes a.0.0 a.0.1 fits a.1 in
    let second = number_takes w64 (2 ^ 64) wide64 a.0.1 b.0.0 b.0.1 first.0.rest_fits b.1 in
    subst (λ (y : Record × List ℕ). Takes bytes (body_bytes y.0) y.1 × IsRecordWithin y.0 × IsRecord y.0 × (kind_of y.0 ≡ 3)) (some_is (Draw (pos a.0.0) (pos b.0.0), b.0.1) (r, rest) g.1)
    (Takes-then bytes (to_be_bytes w64 a.0.0) a.0.1 (to_be_bytes w64 b.0.0) b.0.1 first.0 second.0, (ltb-true _ _ tests.0, leb-true _ _ tests.1), tt, refl)

reply_takes : (bytes : List ℕ) (r : Record) (rest : List ℕ) → IsBytes bytes → reply_at bytes ≡ Some (r, rest) → Takes bytes (body_bytes r) rest × IsRecordWithin r × IsRecord r × (kind_of r ≡ 2)
unfolding reply_at body_bytes
reply_takes bytes r rest fits e =
    let a = bind_some (text_at bytes) (λ x. text_at x.1 >>= λ y. Some (Reply x.0 y.0, y.1)) (r, rest) e in
    let b = bind_some (text_at a.0.1) (λ y. Some (Reply a.0.0 y.0, y.1)) (r, rest) a.2 in
    let first = text_takes bytes a.0.0 a.0.1 fits a.1 in
    let second = text_takes a.0.1 b.0.0 b.0.1 first.takes.rest_fits b.1 in
    subst (λ (y : Record × List ℕ). Takes bytes (body_bytes y.0) y.1 × IsRecordWithin y.0 × IsRecord y.0 × (kind_of y.0 ≡ 2)) (some_is (Reply a.0.0 b.0.0, b.0.1) (r, rest) b.2)
    (Takes-then bytes (text_bytes a.0.0) a.0.1 (text_bytes b.0.0) b.0.1 first.takes second.takes, (first.within, second.within), (first.units, second.units), refl)

body_takes : (kind : ℕ) (bytes : List ℕ) (r : Record) (rest : List ℕ) → IsBytes bytes → body_at kind bytes ≡ Some (r, rest) → Takes bytes (body_bytes r) rest × IsRecordWithin r × IsRecord r × (kind_of r ≡ kind)
unfolding body_bytes
body_takes zero bytes r rest fits e = absurd cc
body_takes (suc zero) bytes r rest fits e =
    let a = bind_some (text_at bytes) (λ t. Some (Post t.0, t.1)) (r, rest) e in
    let first = text_takes bytes a.0.0 a.0.1 fits a.1 in
    subst (λ (y : Record × List ℕ). Takes bytes (body_bytes y.0) y.1 × IsRecordWithin y.0 × IsRecord y.0 × (kind_of y.0 ≡ 1)) (some_is (Post a.0.0, a.0.1) (r, rest) a.2) (first.takes, first.within, first.units, refl)
body_takes (suc (suc zero)) bytes r rest fits e = reply_takes bytes r rest fits e
body_takes (suc (suc (suc zero))) bytes r rest fits e = draw_takes bytes r rest fits e
body_takes (suc (suc (suc (suc zero)))) bytes r rest fits e =
    let a = bind_some (data_at 64 bytes) (λ d. Some (Once d.0, d.1)) (r, rest) e in
    let first = data_takes 64 bytes a.0.0 a.0.1 fits a.1 in
    subst (λ (y : Record × List ℕ). Takes bytes (body_bytes y.0) y.1 × IsRecordWithin y.0 × IsRecord y.0 × (kind_of y.0 ≡ 4)) (some_is (Once a.0.0, a.0.1) (r, rest) a.2) (first.takes, (first.deep, first.within), first.typed, refl)
body_takes (suc (suc (suc (suc (suc kind))))) bytes r rest fits e = absurd cc

abbrev entry_of : List ℕ → Record → Entry
entry_of p r = record { path = p; what = r }

record TakesEntry (bytes : List ℕ) (e : Entry) (rest : List ℕ) : Type 0 where
  pub takes : Takes bytes (entry_bytes e) rest
  pub within : IsWithin e
  pub typed : IsEntry e

entry_takes : (bytes : List ℕ) (e : Entry) (rest : List ℕ) → IsBytes bytes → entry_at bytes ≡ Some (e, rest) → TakesEntry bytes e rest
unfolding entry_at entry_bytes
entry_takes [] e rest fits is = absurd cc
entry_takes (kind ∷ bytes) e rest fits is =
    let a = bind_some (path_at bytes) (λ p. body_at kind p.1 >>= λ r. Some (entry_of p.0 r.0, r.1)) (e, rest) is in
    let b = bind_some (body_at kind a.0.1) (λ r. Some (entry_of a.0.0 r.0, r.1)) (e, rest) a.2 in
    let first = path_takes bytes a.0.0 a.0.1 (IsBytes-rest kind bytes fits) a.1 in
    let second = body_takes kind a.0.1 b.0.0 b.0.1 first.takes.rest_fits b.1 in
    let both = Takes-behind kind bytes (path_bytes a.0.0 ++ body_bytes b.0.0) b.0.1 (Takes-then bytes (path_bytes a.0.0) a.0.1 (body_bytes b.0.0) b.0.1 first.takes second.0) in
    subst (λ (y : Entry × List ℕ). TakesEntry (kind ∷ bytes) y.0 y.1) (some_is (entry_of a.0.0 b.0.0, b.0.1) (e, rest) b.2)
    (record { takes = subst (λ (k : ℕ). Takes (kind ∷ bytes) (k ∷ (path_bytes a.0.0 ++ body_bytes b.0.0)) b.0.1) (sym second.3) both; within = record { some = first.some; short = first.short; what = second.1 }; typed = record { path = first.indexes; what = second.2 } })

-- where nothing follows
only_is : {A : Type 0} (x : A × List ℕ) (y : A) → only x ≡ Some y → (x.0 ≡ y) × (x.1 ≡ [])
only_is (x, []) y e = (some_is x y e, refl)
only_is (x, b ∷ bs) y e = absurd cc

pub entry_spelled : (bytes : List ℕ) (e : Entry) → IsBytes bytes → whole entry_at bytes ≡ Some e → Spells bytes e
entry_spelled bytes e fits is =
    let a = bind_some (entry_at bytes) only e is in
    let end = only_is a.0 e a.2 in
    let t = entry_takes bytes a.0.0 a.0.1 fits a.1 in
    let parts = t.takes.parts ∙ ap (λ (r : List ℕ). entry_bytes a.0.0 ++ r) end.1 ∙ append-nil (entry_bytes a.0.0) in
    subst (λ (x : Entry). Spells bytes x) end.0 (record { within = t.within; typed = t.typed; bytes_are = parts })

pub task_spelled : (bytes k t : List ℕ) → IsBytes bytes → whole task_at bytes ≡ Some (k, t) → SpellsTask bytes k t
unfolding task_at task_bytes
task_spelled bytes k t fits is =
    let z = bind_some (task_at bytes) only (k, t) is in
    let end = only_is z.0 (k, t) z.2 in
    let a = bind_some (text_at bytes) (λ x. text_at x.1 >>= task_pair x.0) z.0 z.1 in
    let b = bind_some (text_at a.0.1) (task_pair a.0.0) z.0 a.2 in
    let first = text_takes bytes a.0.0 a.0.1 fits a.1 in
    let second = text_takes a.0.1 b.0.0 b.0.1 first.takes.rest_fits b.1 in
    let made = some_is ((a.0.0, b.0.0), b.0.1) z.0 b.2 in
    let nothing : b.0.1 ≡ [] = ap (λ p. p.1) made ∙ end.1 in
    let both = Takes-then bytes (text_bytes a.0.0) a.0.1 (text_bytes b.0.0) b.0.1 first.takes second.takes in
    let parts = both.parts ∙ ap (λ (r : List ℕ). (text_bytes a.0.0 ++ text_bytes b.0.0) ++ r) nothing ∙ append-nil (text_bytes a.0.0 ++ text_bytes b.0.0) in
    subst (λ (x : List ℕ × List ℕ). SpellsTask bytes x.0 x.1) (ap (λ p. p.0) made ∙ end.0) (record { token_within = first.within; text_within = second.within; token_units = first.units; text_units = second.units; bytes_are = parts })
