-- What a key is for an array.
use Rattle.std.proofs.Common.{◌≡◌, refl, ap, sym, ◌∙◌, subst, ℕ, zero, suc, ◌+◌, ◌-◌, ◌*◌, ◌<◌, ◌≤◌, nat_lt, Bool, true, false, true≢false, not, List, [], ◌∷◌, ◌++◌, length, Option, Some, None, slice_get, insert, take, drop, get_or, if◌then◌else◌, ◌&&◌, arith}
use Rattle.std.proofs.lemmas.Bool.Decides.{nat_tests}
use Rattle.std.proofs.lemmas.Option.{slice_get-get_or, slice_get_read, slice_get_within}
use Rattle.std.specs.Prelude.{ℤ, pos, negsuc}
use Rattle.turk_base.specs.Names.{Units}
use Rattle.turk_base.specs.Cells.{KeyClass, index, past, named, class_of, class_of_number, decimal_of, digits_on, lower_than, put_down, past_end, doomed}
use Rattle.std.specs.Map.{keys_of}
use Rattle.value_cells.specs.Held.{Key, Props}
use Rattle.value_cells.proofs.Lists.{insert-last}
use Rattle.run_heap.specs.Lengths.{AllFrom, length_or_none}
use Rattle.run_heap.proofs.Tables.{there}
use Rattle.run_heap.proofs.Shorter.{doomed_next, doomed_none}

pub bad_start : (k : Units) (b : Bool) → decimal_of k ≡ (if b then digits_on 0 k else None) → b ≡ false → named ≡ class_of k
unfolding class_of
bad_start k b e h = sym (ap class_of_number (e ∙ ap (λ b. if b then digits_on 0 k else None) h))

IsIndexBelow : ℕ → KeyClass → Type 0
IsIndexBelow n (index i) = i < n
IsIndexBelow n past = Unit {0}
IsIndexBelow n named = Unit {0}

pub index_small : (k : Units) (i : ℕ) → class_of k ≡ index i → i < 1000000
unfolding class_of IsIndexBelow
index_small k i e = subst (IsIndexBelow 1000000) e (small (decimal_of k))
  where
    last : (b : Bool) → IsIndexBelow 1000000 (if b then past else named)
    last true = tt
    last false = tt

    by : (n : ℕ) (b : Bool) → nat_lt n 1000000 ≡ b → IsIndexBelow 1000000 (if b then index n else (if nat_lt n 4294967295 then past else named))
    by n true h = grind (arith, nat_tests)
    by n false h = last (nat_lt n 4294967295)

    small : (o : Option ℕ) → IsIndexBelow 1000000 (class_of_number o)
    small None = tt
    small (Some n) = by n (nat_lt n 1000000) refl

-- ---- keys in falling order of their indexes

lower : (i j : ℕ) (k x : Key) → class_of k ≡ index i → class_of x ≡ index j → lower_than (class_of k) (class_of x) ≡ nat_lt i j
lower i j k x e f = λ z. lower_than (e z) (f z)

pub put_low : (k : Key) (i m : ℕ) (l : List Key) → class_of k ≡ index i → AllFrom m l → i < m → put_down k l ≡ l ++ k ∷ []
put_low k i m [] e a h = refl
put_low k i m (x ∷ l) e a h =
    let t : lower_than (class_of k) (class_of x) ≡ true = lower i a.0.0 k x e a.0.1 ∙ (let w = a.0.2 in grind (arith, nat_tests)) in
    ap (λ t. if t then x ∷ put_down k l else k ∷ x ∷ l) t ∙ ap (λ r. x ∷ r) (put_low k i m l e a.1 h)

pub put_end : (k : Key) (i m n : ℕ) (l : List Key) → class_of k ≡ index i → AllFrom m l → i < m → n ≡ length l → insert l n k ≡ put_down k l
put_end k i m n l e a h s = insert-last l n k s ∙ sym (put_low k i m l e a h)

pub all_less : (m n : ℕ) (l : List Key) → n ≤ m → AllFrom m l → AllFrom n l
all_less m n [] h a = tt
all_less m n (x ∷ l) h a = ((a.0.0, a.0.1, let w = a.0.2 in omega (arith, w, h)), all_less m n l h a.1)

pub all_put : (k : Key) (i m : ℕ) (l : List Key) → class_of k ≡ index i → m ≤ i → AllFrom m l → AllFrom m (put_down k l)
all_put k i m [] e h a = ((i, e, h), tt)
all_put k i m (x ∷ l) e h a = by (lower_than (class_of k) (class_of x)) (all_put k i m l e h a.1)
  where
    by : (t : Bool) → AllFrom m (put_down k l) → AllFrom m (if t then x ∷ put_down k l else k ∷ x ∷ l)
    by true r = (a.0, r)
    by false r = ((i, e, h), a)

-- the place after all of higher index
put_within : (k : Key) (l : List Key) (p : ℕ) → p ≤ length l → ((j : ℕ) (x : Key) → j < p → slice_get l j ≡ Some x → lower_than (class_of k) (class_of x) ≡ true)
    → ((x : Key) → slice_get l p ≡ Some x → lower_than (class_of k) (class_of x) ≡ false) → insert l p k ≡ put_down k l
put_within k [] zero h a z = refl
put_within k [] (suc p) h a z = absurd (omega arith)
put_within k (x ∷ l) zero h a z = sym (ap (λ t. if t then x ∷ put_down k l else k ∷ x ∷ l) (z x refl))
put_within k (x ∷ l) (suc p) h a z =
    ap (λ r. x ∷ r) (put_within k l p (omega (arith, h)) (λ j y q e. a (suc j) y (omega (arith, q)) e) z)
    ∙ sym (ap (λ t. if t then x ∷ put_down k l else k ∷ x ∷ l) (a zero x (omega arith) refl))

pub drop_next : {A : Type 0} (l : List A) (i : ℕ) (x : A) → slice_get l i ≡ Some x → drop i l ≡ x ∷ drop (suc i) l
drop_next [] i x e = cc
drop_next (y ∷ l) zero x e = let h : y ≡ x = cc in ap (λ z. z ∷ l) h
drop_next (y ∷ l) (suc i) x e = drop_next l i x e

-- all before the place are higher
abbrev AreHigher : ℕ → List Key → ℕ → Type 0
AreHigher at l p = (j : ℕ) (x : Key) → j < p → slice_get l j ≡ Some x → (k : Key) → class_of k ≡ index at → lower_than (class_of k) (class_of x) ≡ true

pub put_after : (at : ℕ) (l : List Key) (p : ℕ) (x : Key) → p < length l → x ≡ get_or l p x → AreHigher at l p → ((k : Key) → class_of k ≡ index at → lower_than (class_of k) (class_of x) ≡ false)
    → (k : Key) → class_of k ≡ index at → insert l p k ≡ put_down k l
put_after at l p x h g a z k e =
    let q = slice_get_read l (length l) p x refl h g in
    put_within k l p (omega (arith, h)) (λ j y i f. a j y i f k e) (λ y f. let s : x ≡ y = cc in subst (λ y. lower_than (class_of k) (class_of y) ≡ false) s (z k e))

pub put_last : (at : ℕ) (l : List Key) (p : ℕ) → length l ≤ p → AreHigher at l p → (k : Key) → class_of k ≡ index at → insert l (length l) k ≡ put_down k l
put_last at l p h a k e =
    put_within k l (length l) (omega arith) (λ j y i f. a j y (omega (arith, i, h)) f k e) (λ y f. let w = slice_get_within l (length l) y f in absurd (omega (arith, w)))

pub lower_next : (at : ℕ) (l : List Key) (p : ℕ) (x : Key) → p < length l → x ≡ get_or l p x → AreHigher at l p → ((k : Key) → class_of k ≡ index at → lower_than (class_of k) (class_of x) ≡ true) → AreHigher at l (p + 1)
lower_next at l p x h g a z j y i f k e = by (nat_lt j p) refl
  where
    last : j ≡ p → lower_than (class_of k) (class_of y) ≡ true
    last s =
        let q = slice_get_read l (length l) p x refl h g in
        let t : Some x ≡ Some y = sym q ∙ ap (slice_get l) (sym s) ∙ f in
        let w : x ≡ y = cc in subst (λ y. lower_than (class_of k) (class_of y) ≡ true) w (z k e)

    by : (b : Bool) → nat_lt j p ≡ b → lower_than (class_of k) (class_of y) ≡ true
    by true n = a j y (grind (arith, nat_tests)) f k e
    by false n = last (grind (arith, nat_tests))

-- ---- the digits of a key

pub good_start : (k : Units) (b : Bool) → decimal_of k ≡ (if b then digits_on 0 k else None) → b ≡ true → class_of k ≡ class_of_number (digits_on 0 k)
unfolding class_of
good_start k b e h = ap class_of_number (e ∙ ap (λ b. if b then digits_on 0 k else None) h)

pub past_number : (n : ℕ) (ds : Units) → 4294967295 ≤ n → class_of_number (digits_on n ds) ≡ named
past_number n [] h =
    let a : nat_lt n 1000000 ≡ false = grind (arith, nat_tests) in
    let b : nat_lt n 4294967295 ≡ false = grind (arith, nat_tests) in
    ap (λ t. if t then index n else (if nat_lt n 4294967295 then past else named)) a ∙ ap (λ t. if t then past else named) b
past_number n (d ∷ ds) h = by (nat_lt 47 d && nat_lt d 58) (past_number (n * 10 + (d - 48)) ds (omega (arith, h)))
  where
    by : (t : Bool) → class_of_number (digits_on (n * 10 + (d - 48)) ds) ≡ named → class_of_number (if t then digits_on (n * 10 + (d - 48)) ds else None) ≡ named
    by true r = r
    by false r = refl

pub digit_on : (n d : ℕ) (k : Units) (i : ℕ) → slice_get k i ≡ Some d → 48 ≤ d → d ≤ 57 → digits_on n (drop i k) ≡ digits_on (n * 10 + (d - 48)) (drop (suc i) k)
digit_on n d k i e l h =
    let a : nat_lt 47 d ≡ true = grind (arith, nat_tests) in
    let b : nat_lt d 58 ≡ true = grind (arith, nat_tests) in
    ap (digits_on n) (drop_next k i d e) ∙ (λ j. if a j && b j then digits_on (n * 10 + (d - 48)) (drop (suc i) k) else None)

and_false : (t : Bool) → t && false ≡ false
and_false true = refl
and_false false = refl

-- a unit that is no digit
pub digit_low : (n d : ℕ) (k : Units) (i : ℕ) → slice_get k i ≡ Some d → d < 48 → class_of_number (digits_on n (drop i k)) ≡ named
digit_low n d k i e l =
    let a : nat_lt 47 d ≡ false = grind (arith, nat_tests) in
    ap (λ l. class_of_number (digits_on n l)) (drop_next k i d e) ∙ ap (λ t. class_of_number (if t && nat_lt d 58 then digits_on (n * 10 + (d - 48)) (drop (suc i) k) else None)) a

pub digit_high : (n d : ℕ) (k : Units) (i : ℕ) → slice_get k i ≡ Some d → 57 < d → class_of_number (digits_on n (drop i k)) ≡ named
digit_high n d k i e l =
    let b : nat_lt d 58 ≡ false = grind (arith, nat_tests) in
    ap (λ l. class_of_number (digits_on n l)) (drop_next k i d e)
    ∙ ap (λ t. class_of_number (if t then digits_on (n * 10 + (d - 48)) (drop (suc i) k) else None)) (ap (λ t. nat_lt 47 d && t) b ∙ and_false (nat_lt 47 d))

-- all digits are read
pub read_index : (n : ℕ) → n < 1000000 → class_of_number (digits_on n []) ≡ index n
read_index n h = let a : nat_lt n 1000000 ≡ true = grind (arith, nat_tests) in ap (λ t. if t then index n else (if nat_lt n 4294967295 then past else named)) a

pub read_past : (n : ℕ) → 1000000 ≤ n → n < 4294967295 → class_of_number (digits_on n []) ≡ past
read_past n h l =
    let a : nat_lt n 1000000 ≡ false = grind (arith, nat_tests) in
    let b : nat_lt n 4294967295 ≡ true = grind (arith, nat_tests) in
    ap (λ t. if t then index n else (if nat_lt n 4294967295 then past else named)) a ∙ ap (λ t. if t then past else named) b

pub low_digits : (n : ℕ) (k : Units) (i : ℕ) → i < length k → 48 ≤ get_or k i 0 → get_or k i 0 ≤ 57 → 4294967295 ≤ n * 10 + (get_or k i 0 - 48) → class_of k ≡ class_of_number (digits_on n (drop i k)) → named ≡ class_of k
low_digits n k i h l u large e =
    sym (e ∙ ap class_of_number (digit_on n (get_or k i 0) k i (slice_get-get_or k i 0 h) l u) ∙ past_number (n * 10 + (get_or k i 0 - 48)) (drop (suc i) k) large)

-- ---- the keys of a cell from the last on

long_keys : (ps : Props) → length (keys_of ps) ≡ length ps
long_keys [] = refl
long_keys (p ∷ ps) = ap suc (long_keys ps)

pub no_more : {A : Type 0} (n : ℕ) (l : List A) → length l ≤ n → drop n l ≡ []
no_more zero [] h = refl
no_more (suc n) [] h = refl
no_more zero (x ∷ l) h = absurd (omega arith)
no_more (suc n) (x ∷ l) h = no_more n l (omega (arith, h))

pub keys_begin : (z n m : ℕ) (ps : Props) (items : List Key) → n ≡ length ps → items ≡ [] → (n ≤ length (keys_of ps)) × (items ≡ doomed z (drop n (keys_of ps))) × AllFrom m items
keys_begin z n m ps items e none = (
  omega (arith, e, long_keys ps),
  none ∙ sym (ap (doomed z) (no_more n (keys_of ps) (omega (arith, e, long_keys ps))) ∙ doomed_none z),
  subst (AllFrom m) (sym none) tt,
)

pub key_there : {A : Type 0} (l : List A) (i : ℕ) → i < length l → None ≡ slice_get l i → ⊥
key_there l i h e = let t = there l i h in let q : None ≡ Some t.0 = e ∙ t.1 in cc

module _ (z place : ℕ) (ks : List Key) (k : Key) (items : List Key) (more : 0 < place) (within : place ≤ length ks) (at_place : slice_get ks (place - 1) ≡ Some k) (so_far : items ≡ doomed z (drop place ks)) where
  next_key : drop (place - 1) ks ≡ k ∷ drop place ks
  next_key = let e : suc (place - 1) ≡ place = omega (arith, more) in drop_next ks (place - 1) k at_place ∙ ap (λ n. k ∷ drop n ks) e

  pub keys_add : (at m n : ℕ) (copy : Key) (new : List Key) → copy ≡ k → class_of k ≡ index at → past_end z (class_of k) ≡ true → new ≡ put_down copy items → AllFrom m items → n ≤ at → n ≤ m
      → (place - 1 ≤ length ks) × (new ≡ doomed z (drop (place - 1) ks)) × AllFrom n new
  keys_add at m n copy new c e p w a l h = (
    omega (arith, within),
    w ∙ (λ i. put_down (c i) (so_far i)) ∙ sym (ap (doomed z) next_key ∙ doomed_next z k (drop place ks) true p),
    subst (AllFrom n) (sym w) (all_put copy at n items (ap class_of c ∙ e) l (all_less m n items h a)),
  )

  pub keys_skip : (m : ℕ) → past_end z (class_of k) ≡ false → AllFrom m items → (place - 1 ≤ length ks) × (items ≡ doomed z (drop (place - 1) ks)) × AllFrom m items
  keys_skip m p a = (omega (arith, within), so_far ∙ sym (ap (doomed z) next_key ∙ doomed_next z k (drop place ks) false p), a)

-- ---- a length

pub length_is : (z : ℤ) (n : ℕ) → length_or_none z ≡ Some n → (z ≡ pos n) × (n ≤ 1000000)
length_is (pos m) n e = by (nat_lt 1000000 m) refl e
  where
    by : (t : Bool) → nat_lt 1000000 m ≡ t → (if t then None else Some m) ≡ Some n → (pos m ≡ pos n) × (n ≤ 1000000)
    by true h e = cc
    by false h e = let q : m ≡ n = cc in (ap pos q, subst (λ k. k ≤ 1000000) q (grind (arith, nat_tests)))
length_is (negsuc m) n e = cc
