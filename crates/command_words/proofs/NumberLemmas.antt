-- Numbers and names in words.
use Rattle.std.proofs.Common.{◌≡◌, ℕ, ◌<◌, ◌≤◌, ◌^◌, List, length, Bool, true, false, Option, Some, None, Err, refl, sym, ap, ◌∙◌, arith, cond, rules, option_map}
use Rattle.std.specs.Prelude.{nat_le, nat_lt, ◌&&◌, is_some}
use Rattle.std.specs.Char.{is_ascii_digit}
use Rattle.std.specs.List.{list_all}
use Rattle.std.specs.Str.Parse.{digits_value, ParsesUnsigned}
use Rattle.std.proofs.lemmas.Str.Parse.{IsNumeralModel, numerals_by_value, parse_digits}
use Rattle.std.proofs.lemmas.List.Sums.{AllPass-from_list_all, list_all-from_AllPass}
use Rattle.std.proofs.lemmas.Bool.Decides.{nat_tests}
use Rattle.turk_base.specs.SessionName.{IsName, is_name_byte}
use Rattle.command_words.specs.Numbers.{is_number, within, number_in}
use Rattle.command_words.specs.Options.{name_in, once}
use Rattle.command_words.specs.declared.options.Choices.{Choices}

own : IsNumeralModel (λ ds. list_all is_ascii_digit ds ≡ true) (digits_value 10)
own = numerals_by_value (λ ds. list_all is_ascii_digit ds ≡ true) (search rules)

past : (low high n : ℕ) → high < n → None ≡ within low high n
past low high n lt = grind (arith, nat_tests)

-- digits that are no number of 64 bits are past each limit
pub no_number : {E : Type 0} (low high : ℕ) (w : List ℕ) (e : E) → is_number w ≡ true → high < 2 ^ 64 → ParsesUnsigned 64 10 w (Err e) → None ≡ number_in low high w
no_number low high w e is lt h =
    let digits : list_all is_ascii_digit w ≡ true = grind (arith, nat_tests) in
    let some : 0 < length w = grind (arith, nat_tests) in
    let not : (0 < length w) × (digits_value 10 w < 2 ^ 64) → ⊥ = parse_digits own 64 w (Err e) h digits in
    let small : digits_value 10 w < 2 ^ 64 → ⊥ = λ l. not (some, l) in
    let far : 2 ^ 64 ≤ digits_value 10 w = omega arith in
    past low high (digits_value 10 w) (omega arith) ∙ ap (λ b. cond b (within low high (digits_value 10 w)) None) (sym is)

pub a_name : (w : List ℕ) → IsName w → name_in w ≡ Some w
a_name w h =
    let letters : list_all is_name_byte w ≡ true = list_all-from_AllPass is_name_byte w h.letters in
    let some = h.some in
    let short = h.short in
    grind (arith, nat_tests)

none_by : (w : List ℕ) (b : Bool) → (nat_lt 0 (length w) && nat_le (length w) 32 && list_all is_name_byte w) ≡ b → ¬ IsName w → cond b (Some w) None ≡ None
none_by w false e f = refl
none_by w true e f = absurd (f (record { some = grind (arith, nat_tests); short = grind (arith, nat_tests); letters = AllPass-from_list_all is_name_byte w (grind (arith, nat_tests)) }))

pub no_name : (w : List ℕ) → ¬ IsName w → name_in w ≡ None
no_name w f = none_by w (nat_lt 0 (length w) && nat_le (length w) 32 && list_all is_name_byte w) refl f

-- a name is set where none was
pub named : (o : Option (List ℕ)) (set : List ℕ → Choices) (w s : List ℕ) → false ≡ is_some o → s ≡ w → IsName w → once o set (name_in w) ≡ Some (set s)
named (Some x) set w s e same h = cc
named None set w s e same h = ap (option_map set) (a_name w h) ∙ ap (λ x. Some (set x)) (sym same)

pub unnamed : (o : Option (List ℕ)) (set : List ℕ → Choices) (w : List ℕ) → false ≡ is_some o → ¬ IsName w → once o set (name_in w) ≡ None
unnamed (Some x) set w e f = refl
unnamed None set w e f = ap (option_map set) (no_name w f)
