-- A key is an index just where it is its decimal text; different indexes below n that are n are all of them.
use Rattle.std.proofs.Common.{◌≡◌, refl, ap, sym, ◌∙◌, ℕ, ◌+◌, ◌-◌, ◌*◌, ◌/◌, ◌%◌, ◌^◌, ◌<◌, ◌≤◌, nat_lt, Bool, true, false, ◌&&◌, if◌then◌else◌, [], ◌∷◌, ◌++◌, Option, Some, None, arith, decimal}
use Rattle.std.proofs.lemmas.Bool.Decides.{nat_tests}
use Rattle.std.proofs.lemmas.Fmt.{decimal_step, decimal_digit}
use Rattle.std.proofs.lemmas.List.{append_assoc}
use Rattle.std.specs.Prelude.{◌==◌}
use Rattle.turk_base.specs.Names.{Units}
use Rattle.turk_base.specs.Cells.{index, past, named, class_of, class_of_number, decimal_of, digits_on}
use Rattle.run_heap.proofs.Index_keys.{index_small}

-- ---- the digits of a key

digits_more : (n d : ℕ) (ds : Units) (b c : Bool) (i : ℕ) → nat_lt 47 d ≡ b → nat_lt d 58 ≡ c → digits_on n (d ∷ ds) ≡ Some i → (47 < d) × (d < 58) × (digits_on (n * 10 + (d - 48)) ds ≡ Some i)
digits_more n d ds true true i h k e = (grind (arith, nat_tests), grind (arith, nat_tests), sym (λ x. if h x && k x then digits_on (n * 10 + (d - 48)) ds else None) ∙ e)
digits_more n d ds true false i h k e = let q : None ≡ Some i = sym (λ x. if h x && k x then digits_on (n * 10 + (d - 48)) ds else None) ∙ e in cc
digits_more n d ds false c i h k e = let q : None ≡ Some i = sym (λ x. if h x && nat_lt d 58 then digits_on (n * 10 + (d - 48)) ds else None) ∙ e in cc

digits_rise : (n : ℕ) (ds : Units) (i : ℕ) → digits_on n ds ≡ Some i → n ≤ i
digits_rise n [] i e = let q : n ≡ i = cc in omega (arith, q)
digits_rise n (d ∷ ds) i e =
    let m = digits_more n d ds (nat_lt 47 d) (nat_lt d 58) i refl refl e in
    let h = digits_rise (n * 10 + (d - 48)) ds i m.2 in
    omega (arith, h)

next_digit : (n d : ℕ) → 0 < n → 47 < d → d < 58 → n * 10 + (d - 48) < 2 ^ 64 → decimal (n * 10 + (d - 48)) ≡ decimal n ++ d ∷ []
next_digit n d some low high small =
    let m : ℕ = n * 10 + (d - 48) in
    let q : m / 10 ≡ n = omega (arith, low, high) in
    let r : 48 + m % 10 ≡ d = omega (arith, low, high) in
    decimal_step m (omega (arith, some)) small ∙ (λ x. decimal (q x) ++ r x ∷ [])

append_none : (l : Units) → l ++ [] ≡ l
append_none [] = refl
append_none (x ∷ l) = ap (λ z. x ∷ z) (append_none l)

digits_are : (n : ℕ) (ds : Units) (i : ℕ) → 0 < n → i < 2 ^ 64 → digits_on n ds ≡ Some i → decimal n ++ ds ≡ decimal i
digits_are n [] i some small e = let q : n ≡ i = cc in append_none (decimal n) ∙ ap decimal q
digits_are n (d ∷ ds) i some small e =
    let m = digits_more n d ds (nat_lt 47 d) (nat_lt d 58) i refl refl e in
    let up = digits_rise (n * 10 + (d - 48)) ds i m.2 in
    sym (append_assoc (decimal n) (d ∷ []) ds)
    ∙ ap (λ l. l ++ ds) (sym (next_digit n d some m.0 m.1 (omega (arith, up, small))))
    ∙ digits_are (n * 10 + (d - 48)) ds i (omega (arith, some)) small m.2

one_digit : (d i : ℕ) → digits_on 0 (d ∷ []) ≡ Some i → d ∷ [] ≡ decimal i
one_digit d i e =
    let m = digits_more 0 d [] (nat_lt 47 d) (nat_lt d 58) i refl refl e in
    let z : Some (0 * 10 + (d - 48)) ≡ Some i = m.2 in
    let q : 0 * 10 + (d - 48) ≡ i = cc in
    let r : d ≡ 48 + i = omega (arith, q, m.0) in
    ap (λ x. x ∷ []) r ∙ sym (decimal_digit i (omega (arith, q, m.1)))

text_of_number : (k : Units) (i : ℕ) → i < 2 ^ 64 → decimal_of k ≡ Some i → k ≡ decimal i
text_of_number [] i small e = cc
text_of_number (d ∷ []) i small e = one_digit d i e
text_of_number (d ∷ c ∷ ds) i small e = by (d == 48) refl
  where
    by : (b : Bool) → (d == 48) ≡ b → d ∷ c ∷ ds ≡ decimal i
    by true h = let q : None ≡ Some i = sym (ap (λ b. if b then None else digits_on 0 (d ∷ c ∷ ds)) h) ∙ e in cc
    by false h =
        let f : digits_on 0 (d ∷ c ∷ ds) ≡ Some i = sym (ap (λ b. if b then None else digits_on 0 (d ∷ c ∷ ds)) h) ∙ e in
        let m = digits_more 0 d (c ∷ ds) (nat_lt 47 d) (nat_lt d 58) i refl refl f in
        let ne : (d ≡ 48 → ⊥) = λ q. grind (arith, nat_tests) in
        let first : decimal (0 * 10 + (d - 48)) ≡ d ∷ [] = decimal_digit (0 * 10 + (d - 48)) (omega (arith, m.1)) ∙ (let z : 48 + (0 * 10 + (d - 48)) ≡ d = omega (arith, m.0) in ap (λ x. x ∷ []) z) in
        ap (λ l. l ++ c ∷ ds) (sym first) ∙ digits_are (0 * 10 + (d - 48)) (c ∷ ds) i (omega (arith, m.0, ne)) small m.2

class_number : (o : Option ℕ) (i : ℕ) → class_of_number o ≡ index i → o ≡ Some i
class_number None i e = cc
class_number (Some n) i e = by (nat_lt n 1000000) (nat_lt n 4294967295) e
  where
    by : (b c : Bool) → (if b then index n else (if c then past else named)) ≡ index i → Some n ≡ Some i
    by true c e = cc
    by false true e = cc
    by false false e = cc

-- a key with an index is its decimal text
pub index_is : (k : Units) (i : ℕ) → class_of k ≡ index i → k ≡ decimal i
unfolding class_of
index_is k i e = text_of_number k i (let h = index_small k i e in omega (arith, h)) (class_number (decimal_of k) i e)
