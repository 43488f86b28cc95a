-- The options of a command (own rules).
use Rattle.std.specs.Prelude.{◌≡◌, ℕ, ◌≤◌, ◌&&◌, ◌==◌, nat_le, nat_lt, List, [], ◌∷◌, length, ⊤, Option, Some, None, option_map, option_and_then, unwrap_or, Result, Ok, Err, codes, if◌then◌else◌}
use Rattle.std.specs.List.{list_all, before_first, after_first}
use Rattle.std.specs.Option.{option_map_or}
use Rattle.std.specs.Str.{bytes_eq}
use Rattle.turk_base.specs.SessionName.{is_name_byte}
use Rattle.turk_base.specs.declared.Settings.{Settings}
use Rattle.command_words.specs.Numbers.{number_in}
use Rattle.command_words.specs.declared.WordStop.{WordStop}
use Rattle.command_words.specs.declared.WordStop.TheVariants.{Usage, Memory}
use Rattle.command_words.specs.declared.options.Choices.{Choices}
use Rattle.command_words.specs.declared.options.Key.{Key}
use Rattle.command_words.specs.declared.options.Key.TheVariants.{Fuel, Name, Dice}

-- The answer is what is due, and a fault of usage where nothing is. Want of memory has no cause.
abbrev pub Answers : {A : Type 0} → Option A → Result A WordStop → Type 0
Answers due (Ok a) = due ≡ Some a
Answers due (Err Usage) = due ≡ None
Answers due (Err Memory) = ⊤

-- ---- one option

-- the units that a run may spend
abbrev pub IsFuel : ℕ → Type 0
IsFuel n = (1 ≤ n) × (n ≤ 20000000)

abbrev pub key_of : List ℕ → Option Key
key_of w = if bytes_eq w (codes "--fuel") then Some Fuel else (if bytes_eq w (codes "--name") then Some Name else (if bytes_eq w (codes "--dice") then Some Dice else None))

-- a session name: 1 to 32 of ASCII letters, digits, `-` and `_`
abbrev pub name_in : List ℕ → Option (List ℕ)
name_in w = if nat_lt 0 (length w) && nat_le (length w) 32 && list_all is_name_byte w then Some w else None

-- a value that is set, where none was
abbrev pub once : {A : Type 0} → Option A → (A → Choices) → Option A → Option Choices
once (Some x) set value = None
once None set value = option_map set value

-- the choices with what an option sets: fuel from 1 to 20,000,000, a session name, or the number that begins the draws
abbrev pub chosen : Key → List ℕ → Choices → Option Choices
chosen Fuel w c = once c.fuel (λ n. record { fuel = Some n; name = c.name; dice = c.dice }) (number_in 1 20000000 w)
chosen Name w c = once c.name (λ s. record { fuel = c.fuel; name = Some s; dice = c.dice }) (name_in w)
chosen Dice w c = once c.dice (λ n. record { fuel = c.fuel; name = c.name; dice = Some n }) (number_in 0 18446744073709551615 w)

-- ---- all of them

-- a word is its key's, whose value then is the next word, or key and value joined by the first `=`
abbrev pub begun : List ℕ → Choices → Option (Option Key × Choices)
begun w c = option_map_or (λ k. Some (Some k, c)) (key_of w)
    (option_and_then (λ k. option_map (λ d. (None, d)) (chosen k (after_first (λ b. b == 61) w) c)) (key_of (before_first (λ b. b == 61) w)))

-- what a word makes of the key whose value is to come, and of the choices
abbrev pub taken : Option Key → List ℕ → Choices → Option (Option Key × Choices)
taken None w c = begun w c
taken (Some k) w c = option_map (λ d. (None, d)) (chosen k w c)

-- what words choose, in any order, each key at most once; a key without its value is no option
abbrev pub options_from : List (List ℕ) → Option Key → Choices → Option Choices
options_from [] None c = Some c
options_from [] (Some k) c = None
options_from (w ∷ ws) k c = option_and_then (λ s. options_from ws s.0 s.1) (taken k w c)

abbrev pub nothing_chosen : Choices
nothing_chosen = record { fuel = None; name = None; dice = None }

-- what isn't chosen: 5,000,000 of fuel, the session `s`, and dice 1
abbrev pub settings_of : Choices → Settings
settings_of c = record { name = unwrap_or c.name (codes "s"); fuel = unwrap_or c.fuel 5000000; dice = unwrap_or c.dice 1 }

abbrev pub options_in : List (List ℕ) → Option Settings
options_in ws = option_map settings_of (options_from ws None nothing_chosen)
