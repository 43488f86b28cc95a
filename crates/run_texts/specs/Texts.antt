-- The texts of which notes on a run are made, as lists of 16-bit units (own rule).
use Rattle.std.specs.Prelude.{ℕ, ◌+◌, ◌/◌, ◌%◌, ◌||◌, ◌&&◌, ◌==◌, Bool, false, List, [], ◌∷◌, ◌++◌, nat_lt, decimal, codes, if◌then◌else◌}
use Rattle.std.specs.Char.Utf16.{is_high_surrogate, is_low_surrogate}
use Rattle.turk_base.specs.Trace.{dotted}
use Rattle.turk_base.specs.declared.SlotKey.{SlotKey}
use Rattle.turk_base.specs.declared.SlotKey.TheVariants as key
use Rattle.turk_base.specs.declared.SlotName.{SlotName}
use Rattle.turk_base.specs.declared.Verdict.{Verdict}
use Rattle.turk_base.specs.declared.Verdict.TheVariants as verdict

-- a path: its indexes in decimal, joined by `.`, and `-` where there are none
abbrev pub path_text : List ℕ → List ℕ
path_text [] = codes "-"
path_text (i ∷ is) = dotted (i ∷ is)

-- ---- quoted texts

-- a hexadecimal digit: `0` to `9`, `a` to `f`
abbrev pub hex_digit : ℕ → ℕ
hex_digit d = if nat_lt d 10 then 48 + d else 87 + d

-- a unit as four hexadecimal digits, the highest first
abbrev pub four_digits : ℕ → List ℕ
four_digits u = hex_digit (u / 4096) ∷ hex_digit (u / 256 % 16) ∷ hex_digit (u / 16 % 16) ∷ hex_digit (u % 16) ∷ []

-- a quotation mark or a backslash
abbrev pub is_mark : ℕ → Bool
is_mark u = (u == 34) || (u == 92)

-- a unit that stands in no pair: with a backslash before a mark, and by its number where it is below 32 or a surrogate
abbrev pub single : ℕ → List ℕ
single u = if is_mark u then 92 ∷ u ∷ []
    else (if nat_lt u 32 || is_high_surrogate u || is_low_surrogate u then codes "\\u" ++ four_digits u else u ∷ [])

-- a high surrogate stands first, and a low one after it
abbrev pub begins_pair : List ℕ → Bool
begins_pair (u ∷ v ∷ us) = is_high_surrogate u && is_low_surrogate v
begins_pair us = false

-- the units of a text, where a high surrogate and a low one after it stand as they are
unfoldable pub escaped : List ℕ → List ℕ
escaped [] = []
escaped (u ∷ []) = single u
escaped (u ∷ v ∷ us) = if is_high_surrogate u && is_low_surrogate v then u ∷ v ∷ escaped us else single u ++ escaped (v ∷ us)

-- a text between quotation marks
abbrev pub quoted : List ℕ → List ℕ
quoted us = 34 ∷ escaped us ++ 34 ∷ []

-- ---- lines

-- a slot's part: the word `shape`, or the quoted key
abbrev pub key_text : SlotKey → List ℕ
key_text key.Shape = codes "shape"
key_text (key.Key k) = quoted k

-- a slot: the path of the scope where its cell was made, the cell's number there, and the part
abbrev pub slot_text : SlotName → List ℕ
slot_text s = path_text s.scope ++ codes ":" ++ decimal s.number ++ codes " " ++ key_text s.key

-- the line on why branches depend on each other, none where they do not
abbrev pub dependent : Verdict → List ℕ
dependent verdict.Independent = []
dependent (verdict.TouchedOpen s) = codes "dependent TouchedOpen " ++ slot_text s ++ codes "\n"
dependent (verdict.OnceWhileOpen s) = codes "dependent OnceWhileOpen " ++ slot_text s ++ codes "\n"
dependent (verdict.BranchThrew p) = codes "dependent BranchThrew " ++ path_text p ++ codes "\n"

-- the line on a task whose reply is waited for
abbrev pub waiting : List ℕ → List ℕ
waiting token = codes "waiting " ++ token ++ codes "\n"

-- the line on a scope that crashed
abbrev pub crashed : List ℕ → List ℕ
crashed scope = codes "waiting crash " ++ path_text scope ++ codes "\n"

-- the line on what a script threw and no one caught
abbrev pub uncaught : List ℕ → List ℕ
uncaught thrown = codes "uncaught " ++ quoted thrown ++ codes "\n"
