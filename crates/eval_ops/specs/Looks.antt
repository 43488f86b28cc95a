-- What is true of every machine as it is seen.
use Rattle.std.specs.Prelude.{◌≡◌, ◌<◌, ℕ, IsSome, Some, length, slice_get}
use Rattle.turk_base.specs.Names.{Name}
use Rattle.value_cells.specs.Seen.{Naming, Seen}

-- No two cells have one name; the state hangs on the names of the cells that there are alone; and it knows just those cells.
pub record IsTold (s : Seen) : Type 0 where
  pub apart : (i j : ℕ) (n : Name) → slice_get s.names i ≡ Some n → slice_get s.names j ≡ Some n → i ≡ j
  pub own : (nu mu : Naming) → ((i : ℕ) → i < length s.names → nu i ≡ mu i) → s.first nu ≡ s.first mu
  pub there : (nu : Naming) (i : ℕ) → i < length s.names → IsSome ((s.first nu).known (nu i))
  pub only : (nu : Naming) (n : Name) → IsSome ((s.first nu).known n) → (i : ℕ) × (i < length s.names) × (nu i ≡ n)
