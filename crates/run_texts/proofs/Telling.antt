-- A quoted text stands on one line and tells its units: each unit, or pair, begins in a way of its own.
use Rattle.std.proofs.Common.{◌≡◌, ◌∷◌, [], ◌++◌, ◌/◌, ◌%◌, ◌≤◌, ◌||◌, ℕ, zero, suc, List, Bool, true, false, refl, ap, sym, ◌∙◌, length, arith}
use Rattle.std.specs.Prelude.{nat_lt}
use Rattle.std.specs.List.{All, AllByRecursion}
use Rattle.std.specs.Char.Utf16.{is_high_surrogate, is_low_surrogate}
use Rattle.std.proofs.lemmas.Bool.Decides.{nat_tests}
use Rattle.std.proofs.lemmas.List.{append_cancel_right}
use Rattle.std.proofs.lemmas.List.Elements.{All-from_recursion}
use Rattle.run_texts.specs.Texts.{hex_digit, four_digits, is_mark, single, escaped, quoted}
use Rattle.run_texts.proofs.Escaping.{nothing, one, two}

-- ---- a unit that stands in no pair

abbrev pub by_number : ℕ → Bool
by_number u = nat_lt u 32 || is_high_surrogate u || is_low_surrogate u

pub data Kind (u : ℕ) : Type 0 where
  mark : is_mark u ≡ true → single u ≡ 92 ∷ u ∷ [] → Kind u
  number : single u ≡ 92 ∷ 117 ∷ four_digits u → Kind u
  itself : is_mark u ≡ false → by_number u ≡ false → single u ≡ u ∷ [] → Kind u

pub kind : (u : ℕ) → Kind u
kind u = by (is_mark u) (by_number u) refl refl
  where
    by : (m b : Bool) → is_mark u ≡ m → by_number u ≡ b → Kind u
    by true b marks is = mark marks (rw marks)
    by false true marks is = number (rw (marks, is))
    by false false marks is = itself marks is (rw (marks, is))

same_digit : (d e : ℕ) → hex_digit d ≡ hex_digit e → d ≡ e
same_digit d e same = grind (arith, nat_tests)

digit_high : (d : ℕ) → 32 ≤ hex_digit d
digit_high d = grind (arith, nat_tests)

same_number : (u v : ℕ) (r s : List ℕ) → four_digits u ++ r ≡ four_digits v ++ s → (u ≡ v) × (r ≡ s)
same_number u v r s same =
    let a : u / 4096 ≡ v / 4096 = same_digit _ _ (cc) in
    let b : u / 256 % 16 ≡ v / 256 % 16 = same_digit _ _ (cc) in
    let c : u / 16 % 16 ≡ v / 16 % 16 = same_digit _ _ (cc) in
    let d : u % 16 ≡ v % 16 = same_digit _ _ (cc) in
    (omega arith, cc)

mark_high : (u : ℕ) → is_mark u ≡ true → 32 ≤ u
mark_high u marks = grind (arith, nat_tests)

itself_high : (u : ℕ) → by_number u ≡ false → 32 ≤ u
itself_high u is = grind (arith, nat_tests)

itself_not_first : (u : ℕ) → by_number u ≡ false → is_high_surrogate u ≡ true → ⊥
itself_not_first u is high = grind (arith, nat_tests)

first_high : (u : ℕ) → is_high_surrogate u ≡ true → 32 ≤ u
first_high u is = grind (arith, nat_tests)

second_high : (u : ℕ) → is_low_surrogate u ≡ true → 32 ≤ u
second_high u is = grind (arith, nat_tests)

-- what stands before is the same, and so is what follows
front : (a b x y r s : List ℕ) → a ≡ x → b ≡ y → a ++ r ≡ b ++ s → x ++ r ≡ y ++ s
front a b x y r s is is' same = sym (ap (λ l. l ++ r) is) ∙ same ∙ ap (λ l. l ++ s) is'

same_unit : (u v : ℕ) (r s : List ℕ) → Kind u → Kind v → single u ++ r ≡ single v ++ s → (u ≡ v) × (r ≡ s)
same_unit u v r s (mark _ is) (mark _ is') same =
    let shown : 92 ∷ u ∷ r ≡ 92 ∷ v ∷ s = front _ _ _ _ r s is is' same in
    (cc, cc)
same_unit u v r s (mark marks is) (number is') same =
    let shown : 92 ∷ u ∷ r ≡ 92 ∷ 117 ∷ four_digits v ++ s = front _ _ _ _ r s is is' same in
    let unit : u ≡ 117 = cc in
    let apart : true ≡ false = sym marks ∙ ap is_mark unit in
    absurd (cc)
same_unit u v r s (mark _ is) (itself plain _ is') same =
    let shown : 92 ∷ u ∷ r ≡ v ∷ s = front _ _ _ _ r s is is' same in
    let unit : 92 ≡ v = cc in
    let apart : true ≡ false = ap is_mark unit ∙ plain in
    absurd (cc)
same_unit u v r s (number is) (mark marks is') same =
    let shown : 92 ∷ 117 ∷ four_digits u ++ r ≡ 92 ∷ v ∷ s = front _ _ _ _ r s is is' same in
    let unit : 117 ≡ v = cc in
    let apart : false ≡ true = ap is_mark unit ∙ marks in
    absurd (cc)
same_unit u v r s (number is) (number is') same =
    let shown : 92 ∷ 117 ∷ four_digits u ++ r ≡ 92 ∷ 117 ∷ four_digits v ++ s = front _ _ _ _ r s is is' same in
    same_number u v r s (cc)
same_unit u v r s (number is) (itself plain _ is') same =
    let shown : 92 ∷ 117 ∷ four_digits u ++ r ≡ v ∷ s = front _ _ _ _ r s is is' same in
    let unit : 92 ≡ v = cc in
    let apart : true ≡ false = ap is_mark unit ∙ plain in
    absurd (cc)
same_unit u v r s (itself plain _ is) (mark _ is') same =
    let shown : u ∷ r ≡ 92 ∷ v ∷ s = front _ _ _ _ r s is is' same in
    let unit : 92 ≡ u = cc in
    let apart : true ≡ false = ap is_mark unit ∙ plain in
    absurd (cc)
same_unit u v r s (itself plain _ is) (number is') same =
    let shown : u ∷ r ≡ 92 ∷ 117 ∷ four_digits v ++ s = front _ _ _ _ r s is is' same in
    let unit : 92 ≡ u = cc in
    let apart : true ≡ false = ap is_mark unit ∙ plain in
    absurd (cc)
same_unit u v r s (itself _ _ is) (itself _ _ is') same =
    let shown : u ∷ r ≡ v ∷ s = front _ _ _ _ r s is is' same in
    (cc, cc)

-- a unit in no pair begins otherwise than a pair
no_pair : (u v : ℕ) (r s : List ℕ) → is_high_surrogate u ≡ true → Kind v → u ∷ r ≡ single v ++ s → ⊥
no_pair u v r s high (mark _ is) same =
    let shown : u ∷ r ≡ 92 ∷ v ∷ s = same ∙ ap (λ l. l ++ s) is in
    let unit : u ≡ 92 = cc in
    let apart : true ≡ false = sym high ∙ ap is_high_surrogate unit in
    cc
no_pair u v r s high (number is) same =
    let shown : u ∷ r ≡ 92 ∷ 117 ∷ four_digits v ++ s = same ∙ ap (λ l. l ++ s) is in
    let unit : u ≡ 92 = cc in
    let apart : true ≡ false = sym high ∙ ap is_high_surrogate unit in
    cc
no_pair u v r s high (itself _ plain is) same =
    let shown : u ∷ r ≡ v ∷ s = same ∙ ap (λ l. l ++ s) is in
    let unit : v ≡ u = cc in
    itself_not_first v plain (ap is_high_surrogate unit ∙ high)

some : (v : ℕ) (s : List ℕ) → Kind v → [] ≡ single v ++ s → ⊥
some v s (mark _ is) none =
    let shown : [] ≡ 92 ∷ v ∷ s = none ∙ ap (λ l. l ++ s) is in
    cc
some v s (number is) none =
    let shown : [] ≡ 92 ∷ 117 ∷ four_digits v ++ s = none ∙ ap (λ l. l ++ s) is in
    cc
some v s (itself _ _ is) none =
    let shown : [] ≡ v ∷ s = none ∙ ap (λ l. l ++ s) is in
    cc

-- ---- what a text begins with

pub data Begins (us : List ℕ) : Type 0 where
  empty : us ≡ [] → escaped us ≡ [] → Begins us
  pair : (u v : ℕ) (rest : List ℕ) → us ≡ u ∷ v ∷ rest → is_high_surrogate u ≡ true → is_low_surrogate v ≡ true → escaped us ≡ u ∷ v ∷ escaped rest → Begins us
  unit : (u : ℕ) (rest : List ℕ) → us ≡ u ∷ rest → escaped us ≡ single u ++ escaped rest → Begins us

pub begins : (us : List ℕ) → Begins us
begins [] = empty refl nothing
begins (u ∷ []) = unit u [] refl (one u [] refl)
begins (u ∷ v ∷ us) = by (is_high_surrogate u) (is_low_surrogate v) refl refl
  where
    by : (h l : Bool) → is_high_surrogate u ≡ h → is_low_surrogate v ≡ l → Begins (u ∷ v ∷ us)
    by true true high low = pair u v us refl high low (two u v us (rw (high, low)))
    by true false high low = unit u (v ∷ us) refl (one u (v ∷ us) (rw (high, low)))
    by false l high low = unit u (v ∷ us) refl (one u (v ∷ us) (rw high))

-- ---- one line

abbrev High : List ℕ → Type 0
High us = AllByRecursion (λ u. 32 ≤ u) us

joined : (us vs : List ℕ) → High us → High vs → High (us ++ vs)
joined [] vs before after = after
joined (u ∷ us) vs before after = (before.0, joined us vs before.1 after)

high_single : (u : ℕ) → Kind u → High (single u)
high_single u (mark marks is) = rw is (omega arith, (mark_high u marks, tt))
high_single u (number is) =
    rw is (omega arith, (omega arith, (digit_high _, (digit_high _, (digit_high _, (digit_high _, tt))))))
high_single u (itself _ plain is) = rw is (itself_high u plain, tt)

high : (n : ℕ) (us : List ℕ) → length us ≤ n → Begins us → High (escaped us)
high n us few (empty _ is) = rw is tt
high zero us few (pair u v rest all _ _ is) = absurd (omega (arith, ap length all))
high (suc n) us few (pair u v rest all first second is) =
    rw is (first_high u first, (second_high v second, high n rest (omega (arith, ap length all)) (begins rest)))
high zero us few (unit u rest all is) = absurd (omega (arith, ap length all))
high (suc n) us few (unit u rest all is) =
    rw is (joined _ _ (high_single u (kind u)) (high n rest (omega (arith, ap length all)) (begins rest)))

pub on_one_line : (us : List ℕ) → All (λ u. 32 ≤ u) (quoted us)
on_one_line us = All-from_recursion _ (quoted us)
    (omega arith, joined (escaped us) (34 ∷ []) (high (length us) us (omega arith) (begins us)) (omega arith, tt))

-- ---- one text

same : (n : ℕ) (us vs : List ℕ) → length us ≤ n → Begins us → Begins vs → escaped us ≡ escaped vs → us ≡ vs
same n us vs few (empty none _) (empty none' _) alike = none ∙ sym none'
same n us vs few (empty _ is) (pair _ _ _ _ _ _ is') alike = absurd (cc)
same n us vs few (empty _ is) (unit v rest _ is') alike = absurd (some v _ (kind v) (sym is ∙ alike ∙ is'))
same n us vs few (pair _ _ _ _ _ _ is) (empty _ is') alike = absurd (cc)
same zero us vs few (pair u w rest all _ _ _) (pair _ _ _ _ _ _ _) alike = absurd (omega (arith, ap length all))
same (suc n) us vs few (pair u w rest all _ _ is) (pair v x rest' all' _ _ is') alike =
    let shown : u ∷ w ∷ escaped rest ≡ v ∷ x ∷ escaped rest' = sym is ∙ alike ∙ is' in
    let left : rest ≡ rest' = same n rest rest' (omega (arith, ap length all)) (begins rest) (begins rest') (cc) in
    cc
same n us vs few (pair u w rest _ first _ is) (unit v rest' _ is') alike = absurd (no_pair u v _ _ first (kind v) (sym is ∙ alike ∙ is'))
same n us vs few (unit u rest _ is) (empty _ is') alike = absurd (some u _ (kind u) (sym is' ∙ sym alike ∙ is))
same n us vs few (unit u rest _ is) (pair v x rest' _ first _ is') alike = absurd (no_pair v u _ _ first (kind u) (sym is' ∙ sym alike ∙ is))
same zero us vs few (unit u rest all _) (unit _ _ _ _) alike = absurd (omega (arith, ap length all))
same (suc n) us vs few (unit u rest all is) (unit v rest' all' is') alike =
    let parts : (u ≡ v) × (escaped rest ≡ escaped rest') = same_unit u v _ _ (kind u) (kind v) (sym is ∙ alike ∙ is') in
    let left : rest ≡ rest' = same n rest rest' (omega (arith, ap length all)) (begins rest) (begins rest') parts.1 in
    let unit : u ≡ v = parts.0 in
    cc

pub its_units : (us vs : List ℕ) → quoted us ≡ quoted vs → us ≡ vs
its_units us vs alike =
    let within : escaped us ++ 34 ∷ [] ≡ escaped vs ++ 34 ∷ [] = cc in
    same (length us) us vs (omega arith) (begins us) (begins vs) (append_cancel_right _ _ _ within)
