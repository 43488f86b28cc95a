-- Chains of tests of a key.
use Rattle.std.specs.Prelude.{ℕ, Bool, Option, Some, None, if◌then◌else◌}

abbrev pub by_array_method : Bool → Bool → Bool → Bool → Bool → Bool → Option ℕ
by_array_method a b c d e f = if a then Some 0 else (if b then Some 1 else (if c then Some 2 else (if d then Some 3 else (if e then Some 4 else (if f then Some 5 else None)))))

abbrev pub by_text_method : Bool → Bool → Bool → Bool → Bool → Option ℕ
by_text_method a b c d e = if a then Some 6 else (if b then Some 7 else (if c then Some 8 else (if d then Some 9 else (if e then Some 10 else None))))

abbrev pub by_string_method : Bool → Option ℕ
by_string_method a = if a then Some 11 else None
