-- Numbers in words (own rules).
use Rattle.std.specs.Prelude.{ℕ, Bool, ◌&&◌, ◌||◌, ◌==◌, not, nat_le, List, length, slice_index, Option, Some, None, if◌then◌else◌}
use Rattle.std.specs.Char.{is_ascii_digit}
use Rattle.std.specs.List.{list_all}
use Rattle.std.specs.Str.Parse.{digits_value}

-- decimal digits, one or more, with no sign and with no 0 before others
abbrev pub is_number : List ℕ → Bool
is_number w = not (length w == 0) && list_all is_ascii_digit w && ((length w == 1) || not (slice_index w 0 == 48))

abbrev pub within : ℕ → ℕ → ℕ → Option ℕ
within low high n = if nat_le low n && nat_le n high then Some n else None

-- the number that a word is, where it is one from low to high
abbrev pub number_in : ℕ → ℕ → List ℕ → Option ℕ
number_in low high w = if is_number w then within low high (digits_value 10 w) else None
