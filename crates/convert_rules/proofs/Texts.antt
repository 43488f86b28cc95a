-- Lemmas on digits.
use Rattle.std.specs.Prelude.{ℕ, suc, ◌+◌, ◌-◌, ◌*◌, ◌^◌, ◌<◌, ◌≤◌, ◌≡◌, refl, Bool, true, false, ◌&&◌, ◌==◌, nat_le, nat_lt, nat_eq, not, codes, List, [], ◌∷◌, ◌++◌, length, take, drop, Some, None}
use Rattle.std.specs.Cmp.Lexicographic.{pointwise}
use Rattle.std.proofs.Common.{arith, ap, sym, ◌∙◌, subst, get_or, drop-cons, length-drop, length-take, append-nil}
use Rattle.std.proofs.lemmas.List.{take_all}
use Rattle.turk_base.specs.Conversions.{before, after, every, digit, hex_digit, digit_value, value_onto, same_units, decimal_literal, exponent_mark, all_of, unsigned}
use Rattle.convert_rules.specs.Digits.{value_or_none, CutsAt, pointed}

pub grown : (n b : ℕ) → 1 ≤ b → n ≤ n * b
grown n b h = grind arith

pub value_onto_ge : (b n : ℕ) (us : List ℕ) → 1 ≤ b → n ≤ value_onto b n us
value_onto_ge b n [] h = omega arith
value_onto_ge b n (u ∷ us) h = omega (arith, grown n b h, value_onto_ge b (n * b + digit_value u) us h)

too_large : (n : ℕ) → 2 ^ 53 < n → None ≡ value_or_none n
too_large n h = grind arith

pub past : (b v i : ℕ) (us : List ℕ) → 1 ≤ b → i < length us → value_onto b v (drop i us) ≡ value_onto b 0 us
    → 2 ^ 53 < v * b + digit_value (get_or us i 0) → None ≡ value_or_none (value_onto b 0 us)
past b v i us h small e large =
    let step : value_onto b v (drop i us) ≡ value_onto b (v * b + digit_value (get_or us i 0)) (drop (suc i) us) = ap (value_onto b v) (drop-cons us i 0 small) in
    too_large (value_onto b 0 us) (omega (arith, e, step, large, value_onto_ge b (v * b + digit_value (get_or us i 0)) (drop (suc i) us) h))

pub same_is_pointwise : (a b : List ℕ) → pointwise nat_eq a b ≡ same_units a b
same_is_pointwise [] [] = refl
same_is_pointwise [] (y ∷ b) = refl
same_is_pointwise (x ∷ a) [] = refl
same_is_pointwise (x ∷ a) (y ∷ b) = ap (λ z. (x == y) && z) (same_is_pointwise a b)

hex_of_digit : (u : ℕ) (t : Bool) → digit u && t ≡ true → hex_digit u ≡ true
hex_of_digit u t e = grind arith

rest_of_digit : (u : ℕ) (t : Bool) → digit u && t ≡ true → t ≡ true
rest_of_digit u t e = grind arith

pub hex_of_digits : (t : List ℕ) → every digit t ≡ true → every hex_digit t ≡ true
hex_of_digits [] e = refl
hex_of_digits (u ∷ t) e = rw (hex_of_digit u (every digit t) e) (hex_of_digits t (rest_of_digit u (every digit t) e))

pub cut_found : (test : ℕ → Bool) (t : List ℕ) (i : ℕ) → i < length t → test (get_or t i 0) ≡ true → before test t ≡ take i t ++ before test (drop i t)
    → after test t ≡ after test (drop i t) → CutsAt test t (Some i)
cut_found test t i h e b a =
    let cut : drop i t ≡ get_or t i 0 ∷ drop (suc i) t = drop-cons t i 0 h in
    let none : before test (drop i t) ≡ [] = ap (before test) cut ∙ rw e refl in
    let rest : after test (drop i t) ≡ Some (drop (suc i) t) = ap (after test) cut ∙ rw e refl in
    (h, (b ∙ ap (take i t ++◌) none ∙ append-nil (take i t), a ∙ rest))

not_empty : (t : List ℕ) (i : ℕ) → i < length t → not (nat_le (length (take i t) + length (drop (suc i) t)) 0) ≡ nat_lt 1 (length t)
not_empty t i h = grind (arith, length-drop (suc i) t, length-take)

pointed_some : (t : List ℕ) (i : ℕ) → CutsAt (◌== 46) t (Some i) → pointed t ≡ (every digit (take i t) && every digit (drop (suc i) t) && nat_lt 1 (length t))
pointed_some t i h = rw (h.1.0, h.1.1, not_empty t i h.0) refl

pub pointed_part : (t : List ℕ) (i : ℕ) (rest : List ℕ) → rest ≡ drop (suc i) t → CutsAt (◌== 46) t (Some i) → every digit (take i t) ≡ true → every digit rest ≡ false → false ≡ pointed t
pointed_part t i rest e h first second =
    let part : every digit (drop (suc i) t) ≡ false = subst (λ k. every digit k ≡ false) e second in
    sym (pointed_some t i h ∙ rw (first, part) refl)

pub pointed_whole : (t : List ℕ) (i : ℕ) (rest : List ℕ) → rest ≡ drop (suc i) t → CutsAt (◌== 46) t (Some i) → every digit (take i t) ≡ true → every digit rest ≡ true
    → nat_lt 1 (length t) ≡ pointed t
pointed_whole t i rest e h first second =
    let part : every digit (drop (suc i) t) ≡ true = subst (λ k. every digit k ≡ true) e second in
    sym (pointed_some t i h ∙ rw (first, part) refl)

pub literal_some : (t : List ℕ) (i : ℕ) (rest : List ℕ) (r : Bool) → rest ≡ drop (suc i) t → same_units t (codes "Infinity") ≡ false → CutsAt exponent_mark t (Some i)
    → pointed (take i t) ≡ true → r ≡ all_of digit (unsigned rest) → r ≡ decimal_literal t
literal_some t i rest r e f h first second =
    let part : r ≡ all_of digit (unsigned (drop (suc i) t)) = subst (λ k. r ≡ all_of digit (unsigned k)) e second in
    part ∙ sym (rw (f, h.1.0, h.1.1, first) refl)

-- what stands after a place, as a slice gives it
pub rest_is : (t : List ℕ) (i : ℕ) → take (length t - (i + 1)) (drop (i + 1) t) ≡ drop (suc i) t
rest_is t i =
    let next : i + 1 ≡ suc i = omega arith in
    take_all (length t - (i + 1)) (drop (i + 1) t) (omega (arith, length-drop (i + 1) t)) ∙ ap (λ k. drop k t) next
