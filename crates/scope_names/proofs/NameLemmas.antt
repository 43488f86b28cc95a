-- Names in lists, and names gathered each once.
use Rattle.std.specs.Prelude.{ℕ, suc, ◌+◌, ◌≡◌, refl, Bool, true, false, cond, ◌&&◌, ◌||◌, ◌==◌, nat_eq, List, [], ◌∷◌, ◌++◌, length, if◌then◌else◌}
use Rattle.std.specs.List.{list_any}
use Rattle.std.specs.Cmp.Lexicographic.{pointwise, nat_list_eq_equiv, bytes_decides}
use Rattle.std.proofs.Common.{arith, ap, sym, ◌∙◌, subst, length-append, true≢false, add-one, get_or, take, ◌<◌}
use Rattle.std.proofs.Math.Seq.{take-suc}
use Rattle.turk_base.specs.Names.{Units}
use Rattle.turk_base.specs.Conversions.{same_units}
use Rattle.js_tree.specs.Calls.{has}
use Rattle.js_tree.specs.NameCount.{distinct}
use Rattle.scope_names.specs.Gathered.{with_name, gathered}

same_is_pointwise : (a b : Units) → pointwise nat_eq a b ≡ same_units a b
same_is_pointwise [] [] = refl
same_is_pointwise [] (y ∷ b) = refl
same_is_pointwise (x ∷ a) [] = refl
same_is_pointwise (x ∷ a) (y ∷ b) = ap (λ z. (x == y) && z) (same_is_pointwise a b)

same_back : (a b : Units) → same_units a b ≡ same_units b a
same_back a b = sym (same_is_pointwise a b) ∙ nat_list_eq_equiv.symm a b ∙ same_is_pointwise b a

same_equal : (a b : Units) → same_units a b ≡ true → a ≡ b
same_equal a b e = (bytes_decides a b).0 (same_is_pointwise a b ∙ e)

same_self : (a : Units) → same_units a a ≡ true
same_self a = sym (same_is_pointwise a a) ∙ nat_list_eq_equiv.refl a

pub any_has : (ks : List Units) (x : Units) → list_any (pointwise nat_eq x) ks ≡ has ks x
any_has [] x = refl
any_has (k ∷ ks) x = λ i. (same_is_pointwise x k ∙ same_back x k) i || any_has ks x i

or_false : (b : Bool) → b || false ≡ b
or_false true = refl
or_false false = refl

or_true : (b : Bool) → b || true ≡ true
or_true true = refl
or_true false = refl

or_assoc : (a b c : Bool) → (a || b) || c ≡ a || (b || c)
or_assoc true b c = refl
or_assoc false b c = refl

pub has-append : (xs ys : List Units) (x : Units) → has (xs ++ ys) x ≡ has xs x || has ys x
has-append [] ys x = refl
has-append (y ∷ xs) ys x = ap (λ b. same_units y x || b) (has-append xs ys x) ∙ sym (or_assoc (same_units y x) (has xs x) (has ys x))

has-last : (ns : List Units) (y x : Units) → has (ns ++ y ∷ []) x ≡ has ns x || same_units y x
has-last ns y x = has-append ns (y ∷ []) x ∙ ap (λ b. has ns x || b) (or_false (same_units y x))

has-with_name : (ns : List Units) (y x : Units) → has (with_name ns y) x ≡ has ns x || same_units y x
has-with_name ns y x = by (has ns y) refl
  where
    there : has ns y ≡ true → (b : Bool) → same_units y x ≡ b → has ns x ≡ has ns x || b
    there h true e = let known : has ns x ≡ true = ap (has ns) (sym (same_equal y x e)) ∙ h in known ∙ sym (or_true (has ns x))
    there h false e = sym (or_false (has ns x))

    by : (b : Bool) → has ns y ≡ b → has (cond b ns (ns ++ y ∷ [])) x ≡ has ns x || same_units y x
    by true h = there h (same_units y x) refl
    by false h = has-last ns y x

pub has-gathered : (ns xs : List Units) (x : Units) → has (gathered ns xs) x ≡ has ns x || has xs x
has-gathered ns [] x = sym (or_false (has ns x))
has-gathered ns (y ∷ xs) x = has-gathered (with_name ns y) xs x ∙ ap (λ b. b || has xs x) (has-with_name ns y x) ∙ or_assoc (has ns x) (same_units y x) (has xs x)

pub gathered-append : (ns xs ys : List Units) → gathered ns (xs ++ ys) ≡ gathered (gathered ns xs) ys
gathered-append ns [] ys = refl
gathered-append ns (x ∷ xs) ys = gathered-append (with_name ns x) xs ys

-- how many different names stand in a list that are not among others
abbrev fresh : List Units → List Units → ℕ
fresh ns [] = 0
fresh ns (x ∷ xs) = if has xs x || has ns x then fresh ns xs else suc (fresh ns xs)

first_false : (a b : Bool) → a || b ≡ false → a ≡ false
first_false true b e = absurd (true≢false e)
first_false false b e = refl

second_false : (a b : Bool) → a || b ≡ false → b ≡ false
second_false true b e = absurd (true≢false e)
second_false false b e = e

second_true : (a b : Bool) → a || b ≡ true → a ≡ false → b ≡ true
second_true a b e f = ap (λ z. z || b) (sym f) ∙ e

absent : (ns xs : List Units) (x : Units) → has xs x ≡ false → fresh (ns ++ x ∷ []) xs ≡ fresh ns xs
absent ns [] x e = refl
absent ns (y ∷ ys) x e =
    let apart : same_units x y ≡ false = same_back x y ∙ first_false (same_units y x) (has ys x) e in
    let same : has (ns ++ x ∷ []) y ≡ has ns y = has-last ns x y ∙ ap (λ b. has ns y || b) apart ∙ or_false (has ns y) in
    let rest : fresh (ns ++ x ∷ []) ys ≡ fresh ns ys = absent ns ys x (second_false (same_units y x) (has ys x) e) in
    λ i. cond (has ys y || same i) (rest i) (suc (rest i))

-- a name that comes again in the list, and is not known before it
again : (ns ys : List Units) (x : Units) → has ns x ≡ false → (has ys x ≡ true → fresh ns ys ≡ suc (fresh (ns ++ x ∷ []) ys)) → (b : Bool) → has ys x ≡ b
    → cond (b || has ns x) (fresh ns ys) (suc (fresh ns ys)) ≡ suc (fresh (ns ++ x ∷ []) ys)
again ns ys x new rest true h = rest h
again ns ys x new rest false h = ap (λ b. cond b (fresh ns ys) (suc (fresh ns ys))) new ∙ ap suc (sym (absent ns ys x h))

last_known : (ns : List Units) (x : Units) → has (ns ++ x ∷ []) x ≡ true
last_known ns x = has-last ns x x ∙ ap (λ b. has ns x || b) (same_self x) ∙ or_true (has ns x)

counts_known : (b c : Bool) (n : ℕ) → c ≡ true → cond (b || c) n (suc n) ≡ n
counts_known b c n e = ap (λ z. cond (b || z) n (suc n)) e ∙ ap (λ z. cond z n (suc n)) (or_true b)

one_more : (b : Bool) (n : ℕ) → cond b (suc n) (suc (suc n)) ≡ suc (cond b n (suc n))
one_more true n = refl
one_more false n = refl

at_name : (ns ys : List Units) (x : Units) → has ns x ≡ false → (has ys x ≡ true → fresh ns ys ≡ suc (fresh (ns ++ x ∷ []) ys))
    → fresh ns (x ∷ ys) ≡ suc (fresh (ns ++ x ∷ []) (x ∷ ys))
at_name ns ys x new rest = again ns ys x new rest (has ys x) refl ∙ ap suc (sym (counts_known (has ys x) (has (ns ++ x ∷ []) x) (fresh (ns ++ x ∷ []) ys) (last_known ns x)))

past_name : (ns ys : List Units) (x y : Units) → same_units y x ≡ false → fresh ns ys ≡ suc (fresh (ns ++ x ∷ []) ys) → fresh ns (y ∷ ys) ≡ suc (fresh (ns ++ x ∷ []) (y ∷ ys))
past_name ns ys x y h rest =
    let same : has (ns ++ x ∷ []) y ≡ has ns y = has-last ns x y ∙ ap (λ b. has ns y || b) (same_back x y ∙ h) ∙ or_false (has ns y) in
    (λ i. cond (has ys y || has ns y) (rest i) (suc (rest i))) ∙ one_more (has ys y || has ns y) (fresh (ns ++ x ∷ []) ys)
    ∙ (λ i. suc (cond (has ys y || sym same i) (fresh (ns ++ x ∷ []) ys) (suc (fresh (ns ++ x ∷ []) ys))))

present : (ns xs : List Units) (x : Units) → has xs x ≡ true → has ns x ≡ false → fresh ns xs ≡ suc (fresh (ns ++ x ∷ []) xs)
present ns [] x e new = absurd (true≢false (sym e))
present ns (y ∷ ys) x e new = by (same_units y x) refl (λ h. present ns ys x h new)
  where
    by : (b : Bool) → same_units y x ≡ b → (has ys x ≡ true → fresh ns ys ≡ suc (fresh (ns ++ x ∷ []) ys)) → fresh ns (y ∷ ys) ≡ suc (fresh (ns ++ x ∷ []) (y ∷ ys))
    by true h rest = subst (λ z. fresh ns (z ∷ ys) ≡ suc (fresh (ns ++ x ∷ []) (z ∷ ys))) (sym (same_equal y x h)) (at_name ns ys x new rest)
    by false h rest = past_name ns ys x y h (rest (second_true (same_units y x) (has ys x) e h))

length-gathered_from : (ns xs : List Units) → length (gathered ns xs) ≡ length ns + fresh ns xs
length-gathered_from ns [] = omega arith
length-gathered_from ns (x ∷ xs) = by (has ns x) refl (length-gathered_from ns xs) (length-gathered_from (ns ++ x ∷ []) xs)
  where
    unknown : has ns x ≡ false → (b : Bool) → has xs x ≡ b → suc (fresh (ns ++ x ∷ []) xs) ≡ cond (b || has ns x) (fresh ns xs) (suc (fresh ns xs))
    unknown h true e = sym (present ns xs x e h)
    unknown h false e = ap suc (absent ns xs x e) ∙ ap (λ b. cond b (fresh ns xs) (suc (fresh ns xs))) (sym h)

    by : (b : Bool) → has ns x ≡ b → length (gathered ns xs) ≡ length ns + fresh ns xs → length (gathered (ns ++ x ∷ []) xs) ≡ length (ns ++ x ∷ []) + fresh (ns ++ x ∷ []) xs
        → length (gathered (cond b ns (ns ++ x ∷ [])) xs) ≡ length ns + fresh ns (x ∷ xs)
    by true h known new = known ∙ ap (λ n. length ns + n) (sym (counts_known (has xs x) (has ns x) (fresh ns xs) h))
    by false h known new = new ∙ ap (λ n. n + fresh (ns ++ x ∷ []) xs) (length-append ns (x ∷ [])) ∙ omega (arith, unknown h (has xs x) refl)

fresh-none : (xs : List Units) → fresh [] xs ≡ distinct xs
fresh-none [] = refl
fresh-none (x ∷ xs) = λ i. cond (or_false (has xs x) i) (fresh-none xs i) (suc (fresh-none xs i))

-- a frame has as many names, each once, as are different in its list
pub length-gathered : (xs : List Units) → length (gathered [] xs) ≡ distinct xs
length-gathered xs = length-gathered_from [] xs ∙ omega (arith, fresh-none xs)

-- what a set of names has after one was put in
pub inserted : (ks ns : List Units) (k x : Units) → ks ≡ ns → k ≡ x → (if list_any (pointwise nat_eq k) ks then ks else ks ++ k ∷ []) ≡ with_name ns x
inserted ks ns k x e f = ap (λ b. cond b ks (ks ++ k ∷ [])) (any_has ks k) ∙ (λ i. with_name (e i) (f i))

-- names gathered up to the next one of a list
pub gathered_next : (ns xs : List Units) (i : ℕ) (x : Units) → i < length xs → x ≡ get_or xs i x → with_name (gathered ns (take i xs)) x ≡ gathered ns (take (i + 1) xs)
gathered_next ns xs i x h e =
    let next : i + 1 ≡ suc i = omega arith in
    sym (ap (λ n. gathered ns (take n xs)) next ∙ ap (gathered ns) (take-suc xs i x h ∙ ap (λ y. take i xs ++ y ∷ []) (sym e)) ∙ gathered-append ns (take i xs) (x ∷ []))
