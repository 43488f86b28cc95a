-- Each surrogate in a quoted text has its partner.
use Rattle.std.proofs.Common.{◌≡◌, ◌∷◌, [], ◌++◌, ◌/◌, ◌%◌, ◌<◌, ◌≤◌, ◌^◌, ℕ, zero, suc, List, true, false, Some, refl, ap, sym, ◌∙◌, length, arith, subst}
use Rattle.std.specs.List.{All, AllByRecursion}
use Rattle.std.specs.Char.Utf16.{is_high_surrogate, is_low_surrogate, lone_unit_char, surrogate_pair_char, utf16_chars, has_unpaired_surrogate}
use Rattle.std.proofs.lemmas.Bool.Decides.{nat_tests}
use Rattle.std.proofs.lemmas.List.{append_assoc}
use Rattle.std.proofs.lemmas.List.Elements.{recursion_from_All}
use Rattle.run_texts.specs.Texts.{hex_digit, four_digits, is_mark, single, escaped, quoted}
use Rattle.run_texts.proofs.Telling.{by_number, Kind, mark, number, itself, kind, Begins, empty, pair, unit, begins}

alone : (u : ℕ) (rest : List ℕ) → is_high_surrogate u ≡ false → is_low_surrogate u ≡ false → utf16_chars (u ∷ rest) ≡ Some u ∷ utf16_chars rest
unfolding utf16_chars
alone u [] high low =
    let is : lone_unit_char u ≡ Some u = grind (arith, nat_tests) in
    rw is
alone u (v ∷ rest) high low =
    let is : lone_unit_char u ≡ Some u = grind (arith, nat_tests) in
    rw (high, is)

together : (u v : ℕ) (rest : List ℕ) → is_high_surrogate u ≡ true → is_low_surrogate v ≡ true → utf16_chars (u ∷ v ∷ rest) ≡ Some (surrogate_pair_char u v) ∷ utf16_chars rest
unfolding utf16_chars
together u v rest high low = rw (high, low)

-- these units leave no surrogate that needs a unit after them
abbrev Paired : List ℕ → Type 0
Paired us = (rest : List ℕ) → has_unpaired_surrogate (us ++ rest) ≡ has_unpaired_surrogate rest

none : Paired []
none rest = refl

plain : (u : ℕ) (us : List ℕ) → is_high_surrogate u ≡ false → is_low_surrogate u ≡ false → Paired us → Paired (u ∷ us)
plain u us high low paired rest = rw (alone u (us ++ rest) high low) (paired rest)

all_low : (us : List ℕ) → AllByRecursion (λ u. u < 55296) us → Paired us
all_low [] low = none
all_low (u ∷ us) low =
    let small : u < 55296 = low.0 in
    plain u us (grind (arith, nat_tests)) (grind (arith, nat_tests)) (all_low us low.1)

joined : (us vs : List ℕ) → Paired us → Paired vs → Paired (us ++ vs)
joined us vs before after rest = rw append_assoc (before (vs ++ rest) ∙ after rest)

digit_low : (d : ℕ) → d < 16 → hex_digit d < 55296
digit_low d few = grind (arith, nat_tests)

mark_low : (u : ℕ) → is_mark u ≡ true → u < 55296
mark_low u marks = grind (arith, nat_tests)

not_first : (u : ℕ) → by_number u ≡ false → is_high_surrogate u ≡ false
not_first u is = grind (arith, nat_tests)

not_second : (u : ℕ) → by_number u ≡ false → is_low_surrogate u ≡ false
not_second u is = grind (arith, nat_tests)

paired_single : (u : ℕ) → u < 2 ^ 16 → Kind u → Paired (single u)
paired_single u few (mark marks is) = subst Paired (sym is) (all_low (92 ∷ u ∷ []) (omega arith, (mark_low u marks, tt)))
paired_single u few (number is) =
    subst Paired (sym is) (all_low (92 ∷ 117 ∷ four_digits u) (
      omega arith,
      (
        omega arith,
        (digit_low (u / 4096) (omega arith), (digit_low (u / 256 % 16) (omega arith), (digit_low (u / 16 % 16) (omega arith), (digit_low (u % 16) (omega arith), tt)))),
      ),
    ))
paired_single u few (itself _ is found) = subst Paired (sym found) (plain u [] (not_first u is) (not_second u is) none)

abbrev Units : List ℕ → Type 0
Units us = AllByRecursion (λ u. u < 2 ^ 16) us

paired : (n : ℕ) (us : List ℕ) → length us ≤ n → Units us → Begins us → Paired (escaped us)
paired n us few units (empty _ is) = subst Paired (sym is) none
paired zero us few units (pair u v left all _ _ is) = absurd (omega (arith, ap length all))
paired (suc n) us few units (pair u v left all first second is) =
    let within : Units (u ∷ v ∷ left) = subst Units all units in
    let after : Paired (escaped left) = paired n left (omega (arith, ap length all)) within.1.1 (begins left) in
    subst Paired (sym is) (λ rest. rw (together u v (escaped left ++ rest) first second) (after rest))
paired zero us few units (unit u left all is) = absurd (omega (arith, ap length all))
paired (suc n) us few units (unit u left all is) =
    let within : Units (u ∷ left) = subst Units all units in
    let after : Paired (escaped left) = paired n left (omega (arith, ap length all)) within.1 (begins left) in
    subst Paired (sym is) (joined (single u) (escaped left) (paired_single u within.0 (kind u)) after)

ended : has_unpaired_surrogate [] ≡ false
unfolding utf16_chars
ended = refl

pub no_lone_surrogate : (us : List ℕ) → All (λ u. u < 2 ^ 16) us → has_unpaired_surrogate (quoted us) ≡ false
no_lone_surrogate us units =
    let mark : Paired (34 ∷ []) = all_low (34 ∷ []) (omega arith, tt) in
    let inside : Paired (escaped us) = paired (length us) us (omega arith) (recursion_from_All _ us units) (begins us) in
    mark (escaped us ++ 34 ∷ []) ∙ inside (34 ∷ []) ∙ mark [] ∙ ended
