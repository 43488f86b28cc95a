-- Each element of an array whose keys are just its elements is found when it is looked up, and each key of a cell.
use Rattle.std.proofs.Common.{◌≡◌, refl, ap, sym, ◌∙◌, subst, ℕ, zero, suc, ◌+◌, ◌<◌, ◌≤◌, nat_lt, Bool, true, false, true≢false, ◌&&◌, ◌||◌, cond, if◌then◌else◌, List, [], ◌∷◌, length, Option, Some, None, is_some, slice_get, arith, decimal}
use Rattle.std.proofs.lemmas.Bool.Decides.{nat_tests}
use Rattle.std.proofs.lemmas.Map.Keys.{IsDistinct-head, IsDistinct-tail}
use Rattle.std.specs.Prelude.{◌==◌, IsSome, pos, negsuc}
use Rattle.std.specs.List.{IsDistinct, AllByRecursion}
use Rattle.std.specs.Map.{keys_of, lookup}
use Rattle.turk_base.specs.Names.{pick, units_eq}
use Rattle.turk_base.specs.Values.{Val, Undefined, Null, Truth, Number, Text, Object, Array}
use Rattle.turk_base.specs.Cells.{KeyClass, index, past, named, class_of, length_key}
use Rattle.turk_base.specs.Steps.{without_length, is_index_below, all_below, just_elements}
use Rattle.value_cells.specs.Held.{Key, Props, key_eq}
use Rattle.run_heap.proofs.Keys.{key_same}
use Rattle.run_data.proofs.Numbers.{index_is}

-- ---- a key that stands in a cell

pub key_found : (ps : Props) (i : ℕ) (k : Key) → slice_get (keys_of ps) i ≡ Some k → IsSome (lookup (key_eq k) ps)
key_found [] i k e = cc
key_found (p ∷ ps) zero k e =
    let q : p.0 ≡ k = cc in
    let t : key_eq k p.0 ≡ true = subst (λ j. key_eq j p.0 ≡ true) q (key_same p.0) in
    ap (λ t. is_some (cond t (Some p.1) (lookup (key_eq k) ps))) t
key_found (p ∷ ps) (suc i) k e = by (key_eq k p.0) (key_found ps i k e)
  where
    by : (t : Bool) → IsSome (lookup (key_eq k) ps) → IsSome (cond t (Some p.1) (lookup (key_eq k) ps))
    by true h = refl
    by false h = h

-- ---- indexes among keys

abbrev at_index : ℕ → KeyClass → Bool
at_index i (index j) = i == j
at_index i past = false
at_index i named = false

abbrev has : ℕ → List Key → Bool
has i [] = false
has i (k ∷ ks) = at_index i (class_of k) || has i ks

same_index : (i : ℕ) (d : KeyClass) → at_index i d ≡ true → d ≡ index i
same_index i (index j) e = let q : j ≡ i = grind (arith, nat_tests) in ap index q
same_index i past e = absurd (true≢false (sym e))
same_index i named e = absurd (true≢false (sym e))

-- such a key is the decimal text
at_is : (i : ℕ) (k : Key) → at_index i (class_of k) ≡ true → k ≡ decimal i
at_is i k e = index_is k i (same_index i (class_of k) e)

pub has_found : (ps : Props) (i : ℕ) → has i (keys_of ps) ≡ true → IsSome (lookup (key_eq (decimal i)) ps)
has_found [] i e = absurd (true≢false (sym e))
has_found (p ∷ ps) i e = by (at_index i (class_of p.0)) refl e (λ h. has_found ps i h)
  where
    later : (t : Bool) → IsSome (lookup (key_eq (decimal i)) ps) → IsSome (cond t (Some p.1) (lookup (key_eq (decimal i)) ps))
    later true h = refl
    later false h = h

    by : (b : Bool) → at_index i (class_of p.0) ≡ b → b || has i (keys_of ps) ≡ true → (has i (keys_of ps) ≡ true → IsSome (lookup (key_eq (decimal i)) ps)) → IsSome (cond (key_eq (decimal i) p.0) (Some p.1) (lookup (key_eq (decimal i)) ps))
    by true h e r =
        let t : key_eq (decimal i) p.0 ≡ true = subst (λ j. key_eq j p.0 ≡ true) (at_is i p.0 h) (key_same p.0) in
        ap (λ t. is_some (cond t (Some p.1) (lookup (key_eq (decimal i)) ps))) t
    by false h e r = later (key_eq (decimal i) p.0) (r e)

-- ---- how many of the indexes below n stand among keys

abbrev one_if : Bool → ℕ
one_if true = 1
one_if false = 0

abbrev hits : ℕ → List Key → ℕ
hits zero ks = 0
hits (suc n) ks = one_if (has n ks) + hits n ks

one_or_none : (b : Bool) → one_if b ≤ 1
one_or_none true = omega arith
one_or_none false = omega arith

hits_few : (n : ℕ) (ks : List Key) → hits n ks ≤ n
hits_few zero ks = omega arith
hits_few (suc n) ks = let h = hits_few n ks in let b = one_or_none (has n ks) in omega (arith, h, b)

hits_all : (n i : ℕ) (ks : List Key) → hits n ks ≡ n → i < n → has i ks ≡ true
hits_all zero i ks e h = absurd (omega (arith, h))
hits_all (suc n) i ks e h = by (has n ks) refl (hits_few n ks) (λ f l. hits_all n i ks f l)
  where
    earlier : hits n ks ≡ n → (nat_lt i n) ≡ false → has n ks ≡ true → has i ks ≡ true
    earlier f l t = let q : n ≡ i = grind (arith, nat_tests) in subst (λ m. has m ks ≡ true) q t

    choose : (b : Bool) → nat_lt i n ≡ b → hits n ks ≡ n → has n ks ≡ true → (hits n ks ≡ n → i < n → has i ks ≡ true) → has i ks ≡ true
    choose true l f t r = r f (grind (arith, nat_tests))
    choose false l f t r = earlier f l t

    by : (b : Bool) → has n ks ≡ b → hits n ks ≤ n → (hits n ks ≡ n → i < n → has i ks ≡ true) → has i ks ≡ true
    by true t few r = choose (nat_lt i n) refl (let z : one_if true + hits n ks ≡ suc n = sym (ap (λ b. one_if b + hits n ks) t) ∙ e in omega (arith, z)) t r
    by false t few r = let z : one_if false + hits n ks ≡ suc n = sym (ap (λ b. one_if b + hits n ks) t) ∙ e in absurd (omega (arith, z, few))

hits_none : (n : ℕ) → hits n [] ≡ 0
hits_none zero = refl
hits_none (suc n) = let h = hits_none n in omega (arith, h)

-- a key of the index j
module _ (k : Key) (j : ℕ) (ks : List Key) (is : class_of k ≡ index j) where
  has_more : (i : ℕ) (b : Bool) → (i == j) ≡ b → has i (k ∷ ks) ≡ b || has i ks
  has_more i b e = ap (λ d. at_index i d || has i ks) is ∙ ap (λ b. b || has i ks) e

  hits_below : (n : ℕ) → n ≤ j → hits n (k ∷ ks) ≡ hits n ks
  hits_below zero h = refl
  hits_below (suc n) h = let f : (n == j) ≡ false = grind (arith, nat_tests) in λ x. one_if (has_more n false f x) + hits_below n (omega (arith, h)) x

  hits_more : (n : ℕ) → j < n → has j ks ≡ false → hits n (k ∷ ks) ≡ suc (hits n ks)
  hits_more zero h a = absurd (omega (arith, h))
  hits_more (suc n) h a = by (n == j) refl (λ l. hits_more n l a)
    where
      by : (b : Bool) → (n == j) ≡ b → (j < n → hits n (k ∷ ks) ≡ suc (hits n ks)) → one_if (has n (k ∷ ks)) + hits n (k ∷ ks) ≡ suc (one_if (has n ks) + hits n ks)
      by true e m =
          let q : j ≡ n = grind (arith, nat_tests) in
          let miss : has n ks ≡ false = subst (λ m. has m ks ≡ false) q a in
          let first : one_if (has n (k ∷ ks)) ≡ 1 = ap one_if (has_more n true e) in
          let none : one_if (has n ks) ≡ 0 = ap one_if miss in
          let rest : hits n (k ∷ ks) ≡ hits n ks = hits_below n (omega (arith, q)) in
          omega (arith, first, none, rest)
      by false e m =
          let l : j < n = grind (arith, nat_tests) in
          let r : hits n (k ∷ ks) ≡ suc (hits n ks) = m l in
          ap (λ b. one_if b + hits n (k ∷ ks)) (has_more n false e) ∙ (let z : one_if (has n ks) + hits n (k ∷ ks) ≡ suc (one_if (has n ks) + hits n ks) = omega (arith, r) in z)

-- ---- the keys of an array but for `length`

abbrev elements : List Key → List Key
elements ks = without_length Array ks

others : (k : Key) (j : ℕ) (ks : List Key) → class_of k ≡ index j → AllByRecursion (λ y. key_eq k y ≡ false) ks → has j (elements ks) ≡ false
others k j [] is a = refl
others k j (y ∷ ks) is a = by (units_eq y length_key) (others k j ks is a.1)
  where
    miss : (b : Bool) → at_index j (class_of y) ≡ b → b ≡ false
    miss true e =
        let q : y ≡ k = at_is j y e ∙ sym (index_is k j is) in
        absurd (true≢false (sym (key_same k) ∙ ap (key_eq k) (sym q) ∙ a.0))
    miss false e = refl

    by : {A : Type 0} (d : Dec A) → has j (elements ks) ≡ false → has j (pick d (elements ks) (y ∷ elements ks)) ≡ false
    by (yes e) h = h
    by (no e) h = ap (λ b. b || has j (elements ks)) (miss (at_index j (class_of y)) refl) ∙ h

below_is : (n : ℕ) (d : KeyClass) → is_index_below n d ≡ true → (j : ℕ) × (d ≡ index j) × (j < n)
below_is n (index j) e = (j, refl, grind (arith, nat_tests))
below_is n past e = absurd (true≢false (sym e))
below_is n named e = absurd (true≢false (sym e))

first_true : (a b : Bool) → a && b ≡ true → a ≡ true
first_true true b e = refl
first_true false b e = absurd (true≢false (sym e))

second_true : (a b : Bool) → a && b ≡ true → b ≡ true
second_true true b e = e
second_true false b e = absurd (true≢false (sym e))

hits_are : (n : ℕ) (ks : List Key) → IsDistinct key_eq ks → all_below n (elements ks) ≡ true → hits n (elements ks) ≡ length (elements ks)
hits_are n [] d a = hits_none n
hits_are n (k ∷ ks) d a = by (units_eq k length_key) a (hits_are n ks (IsDistinct-tail key_eq k ks d))
  where
    by : {A : Type 0} (t : Dec A) → all_below n (pick t (elements ks) (k ∷ elements ks)) ≡ true → (all_below n (elements ks) ≡ true → hits n (elements ks) ≡ length (elements ks))
        → hits n (pick t (elements ks) (k ∷ elements ks)) ≡ length (pick t (elements ks) (k ∷ elements ks))
    by (yes e) a r = r a
    by (no e) a r =
        let b = below_is n (class_of k) (first_true (is_index_below n (class_of k)) (all_below n (elements ks)) a) in
        hits_more k b.0 (elements ks) b.1 n b.2 (others k b.0 ks b.1 (IsDistinct-head key_eq k ks d)) ∙ ap suc (r (second_true (is_index_below n (class_of k)) (all_below n (elements ks)) a))

has_whole : (i : ℕ) (ks : List Key) → has i (elements ks) ≡ true → has i ks ≡ true
has_whole i [] e = e
has_whole i (k ∷ ks) e = by (units_eq k length_key) e (λ h. has_whole i ks h)
  where
    by : {A : Type 0} (t : Dec A) → has i (pick t (elements ks) (k ∷ elements ks)) ≡ true → (has i (elements ks) ≡ true → has i ks ≡ true) → at_index i (class_of k) || has i ks ≡ true
    by (yes q) e r = later (at_index i (class_of k)) (r e)
      where
        later : (b : Bool) → has i ks ≡ true → b || has i ks ≡ true
        later true h = refl
        later false h = h
    by (no q) e r = each (at_index i (class_of k)) e r
      where
        each : (b : Bool) → b || has i (elements ks) ≡ true → (has i (elements ks) ≡ true → has i ks ≡ true) → b || has i ks ≡ true
        each true h r = refl
        each false h r = r h

pub element_found : (ps : Props) (n i : ℕ) → IsDistinct key_eq (keys_of ps) → length (elements (keys_of ps)) ≡ n → all_below n (elements (keys_of ps)) ≡ true → i < n → IsSome (lookup (key_eq (decimal i)) ps)
element_found ps n i d long a h = has_found ps i (has_whole i (keys_of ps) (hits_all n i (elements (keys_of ps)) (hits_are n (keys_of ps) d a ∙ long) h))

-- what the test of the elements says
pub just_are : (ks : List Key) (o : Option Val) (n : ℕ) → just_elements ks o ≡ Some n → (length ks ≡ n) × (all_below n ks ≡ true)
just_are ks (Some (Number (pos m))) n e = by (length ks == m) (all_below m ks) refl refl e
  where
    by : (a b : Bool) → (length ks == m) ≡ a → all_below m ks ≡ b → (if a && b then Some m else None) ≡ Some n → (length ks ≡ n) × (all_below n ks ≡ true)
    by true true p q e = let s : m ≡ n = cc in (let l : length ks ≡ m = grind (arith, nat_tests) in l ∙ s, subst (λ m. all_below m ks ≡ true) s q)
    by true false p q e = cc
    by false b p q e = cc
just_are ks (Some (Number (negsuc m))) n e = cc
just_are ks (Some Undefined) n e = cc
just_are ks (Some Null) n e = cc
just_are ks (Some (Truth b)) n e = cc
just_are ks (Some (Text t)) n e = cc
just_are ks (Some (Object c)) n e = cc
just_are ks None n e = cc
