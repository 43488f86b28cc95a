-- The entries of a file, read off its bytes. Own rules; the file's form is the relation of the log, with which this agrees.
use Rattle.std.specs.Prelude.{◌≡◌, ◌+◌, ◌-◌, ◌^◌, ◌<◌, ◌≤◌, ◌==◌, ℕ, zero, suc, Bool, true, false, List, [], ◌∷◌, ◌++◌, length, take, drop, if◌then◌else◌, nat_le}
use Rattle.std.specs.Int.{w32, from_be_bytes}

-- the length that four bytes say
abbrev pub size_said : List ℕ → ℕ
size_said bytes = from_be_bytes w32 (take 4 bytes)

-- at most n entries, each behind an open gate and its length
unfoldable pub entries_from : ℕ → List ℕ → List (List ℕ)
entries_from zero bytes = []
entries_from (suc n) [] = []
entries_from (suc n) (gate ∷ rest) = if gate == 165 then take (size_said rest) (drop 4 rest) ∷ entries_from n (drop (size_said rest) (drop 4 rest)) else []

-- the entries up to the closed gate; a file of at most one byte has none
unfoldable pub entries_in : List ℕ → List (List ℕ)
entries_in bytes = if nat_le (length bytes) 1 then [] else entries_from (length bytes) bytes
