-- What a trace is seen as, what is true of each, and why a push is refused.
use Rattle.std.specs.Prelude.{◌≡◌, ◌^◌, ◌≤◌, ℕ, false, List, [], ◌∷◌, ◌++◌, length, None, if◌then◌else◌, nat_lt, vec_len, vec_capacity}
use Rattle.std.specs.Global.{Vec}
use Rattle.turk_base.specs.declared.Entry.{Entry}
use Rattle.turk_base.specs.Trace.{at, below}

-- a trace: its entries in the order in which they came, and a bound: an entry whose path is shorter than it
-- is pushed without taking memory
pub record Kept : Type 0 where
  pub entries : List Entry
  pub room : ℕ

-- no two entries have one path
abbrev pub HasDistinctPaths : List Entry → Type 0
HasDistinctPaths [] = Unit {0}
HasDistinctPaths (e ∷ es) = (at es e.path ≡ None) × HasDistinctPaths es

-- a list of entries that a trace may be
pub record IsTrace (es : List Entry) : Type 0 where
  pub distinct : HasDistinctPaths es
  pub few : length es ≤ 65536

-- a path of any length has fewer than 2 ^ 64 indexes
abbrev pub room_in : Vec Entry → ℕ
room_in v = if nat_lt (vec_len v) (vec_capacity v) then 2 ^ 64 else 0

-- the list begins with this front
abbrev pub Begins : List ℕ → List ℕ → Type 0
Begins front xs = (rest : List ℕ) × (xs ≡ front ++ rest)

-- no record stands at the path or at a longer one that begins with it
pub record StandsNone (es : List Entry) (path : List ℕ) : Type 0 where
  pub here : at es path ≡ None
  pub longer : below es path ≡ false
