-- The fuel that options choose is within its limits.
use Rattle.std.proofs.Common.{◌≡◌, ℕ, ◌≤◌, List, [], ◌∷◌, Bool, true, false, Option, Some, None, subst, arith, cond, option_map, ◌==◌}
use Rattle.std.specs.Prelude.{option_and_then, unwrap_or, IfSome}
use Rattle.std.specs.Option.{option_map_or}
use Rattle.std.specs.List.{before_first, after_first}
use Rattle.std.specs.Str.Parse.{digits_value}
use Rattle.std.proofs.lemmas.Option.{none-some, same_Some}
use Rattle.std.proofs.lemmas.Bool.Decides.{nat_tests}
use Rattle.command_words.specs.Numbers.{is_number, within, number_in}
use Rattle.command_words.specs.Options.{IsFuel, once, name_in, key_of, chosen, taken, options_from, nothing_chosen}
use Rattle.command_words.specs.declared.options.Choices.{Choices}
use Rattle.command_words.specs.declared.options.Key.{Key}
use Rattle.command_words.specs.declared.options.Key.TheVariants.{Fuel, Name, Dice}
use Rattle.command_words.proofs.OptionLemmas.{map_some, and_then_some}

-- the fuel, where it is chosen
abbrev pub HasFuel : Choices → Type 0
HasFuel c = IfSome c.fuel IsFuel

within_range : (low high n m : ℕ) → within low high n ≡ Some m → (low ≤ m) × (m ≤ high)
within_range low high n m e = (grind (arith, nat_tests), grind (arith, nat_tests))

number_range : (low high : ℕ) (w : List ℕ) (m : ℕ) (b : Bool) → cond b (within low high (digits_value 10 w)) None ≡ Some m → (low ≤ m) × (m ≤ high)
number_range low high w m true e = within_range low high (digits_value 10 w) m e
number_range low high w m false e = absurd (none-some m e)

once_some : {A : Type 0} (o : Option A) (set : A → Choices) (v : Option A) (d : Choices) → once o set v ≡ Some d → (x : A) × (v ≡ Some x) × (set x ≡ d)
once_some (Some y) set v d e = absurd (none-some d e)
once_some None set v d e = map_some set v d e

chosen_fuel : (k : Key) (w : List ℕ) (c d : Choices) → chosen k w c ≡ Some d → HasFuel c → HasFuel d
chosen_fuel Fuel w c d e h = let (n, number, is) = once_some c.fuel (λ n. record { fuel = Some n; name = c.name; dice = c.dice }) (number_in 1 20000000 w) d e in
    subst (λ d. HasFuel d) is (number_range 1 20000000 w n (is_number w) number)
chosen_fuel Name w c d e h = let (n, value, is) = once_some c.name (λ s. record { fuel = c.fuel; name = Some s; dice = c.dice }) (name_in w) d e in subst (λ d. HasFuel d) is h
chosen_fuel Dice w c d e h = let (n, value, is) = once_some c.dice (λ n. record { fuel = c.fuel; name = c.name; dice = Some n }) (number_in 0 18446744073709551615 w) d e in subst (λ d. HasFuel d) is h

set_fuel : (k : Key) (w : List ℕ) (c : Choices) (s : Option Key × Choices) → option_map (λ d. (None, d)) (chosen k w c) ≡ Some s → HasFuel c → HasFuel s.1
set_fuel k w c s e h = let (d, is, same) = map_some (λ d. (None, d)) (chosen k w c) s e in subst (λ s. HasFuel s.1) same (chosen_fuel k w c d is h)

begun_fuel : (o : Option Key) (w : List ℕ) (c : Choices) (s : Option Key × Choices)
    → option_map_or (λ k. Some (Some k, c)) o (option_and_then (λ k. option_map (λ d. (None, d)) (chosen k (after_first (λ b. b == 61) w) c)) (key_of (before_first (λ b. b == 61) w))) ≡ Some s
    → HasFuel c → HasFuel s.1
begun_fuel (Some k) w c s e h = subst (λ s. HasFuel s.1) (same_Some _ _ e) h
begun_fuel None w c s e h = let (k, is, f) = and_then_some (λ k. option_map (λ d. (None, d)) (chosen k (after_first (λ b. b == 61) w) c)) (key_of (before_first (λ b. b == 61) w)) s e in
    set_fuel k (after_first (λ b. b == 61) w) c s f h

taken_fuel : (k : Option Key) (w : List ℕ) (c : Choices) (s : Option Key × Choices) → taken k w c ≡ Some s → HasFuel c → HasFuel s.1
taken_fuel None w c s e h = begun_fuel (key_of w) w c s e h
taken_fuel (Some k) w c s e h = set_fuel k w c s e h

from_fuel : (ws : List (List ℕ)) (k : Option Key) (c d : Choices) → options_from ws k c ≡ Some d → HasFuel c → HasFuel d
from_fuel [] None c d e h = subst (λ d. HasFuel d) (same_Some _ _ e) h
from_fuel [] (Some k) c d e h = absurd (none-some d e)
from_fuel (w ∷ ws) k c d e h = let (s, is, f) = and_then_some (λ s. options_from ws s.0 s.1) (taken k w c) d e in
    from_fuel ws s.0 s.1 d f (taken_fuel k w c s is h)

or_default : (o : Option ℕ) → IfSome o IsFuel → IsFuel (unwrap_or o 5000000)
or_default (Some n) h = h
or_default None h = (omega arith, omega arith)

-- the fuel of what words choose
pub fuel_within : (ws : List (List ℕ)) (d : Choices) → options_from ws None nothing_chosen ≡ Some d → IsFuel (unwrap_or d.fuel 5000000)
fuel_within ws d e = or_default d.fuel (from_fuel ws None nothing_chosen d e tt)
