-- Properties with numbers for their keys, and what they are with the keys' texts (own rules).
use Rattle.std.specs.Prelude.{◌≡◌, ℕ, zero, suc, List, [], ◌∷◌, map, get_or, Some, slice_get}
use Rattle.key_table.specs.Keys.{Key, HasNumber}
use Rattle.value_cells.specs.declared.Value.{Value}
use Rattle.value_cells.specs.declared.CellData.{CellData}
use Rattle.value_cells.specs.Held.{Cell, Props}

-- pairs of a key's number and a value in order
abbrev pub Entries : Type 0
Entries = List (ℕ × Value)

-- the text of the key with that number
abbrev pub key_in : List Key → ℕ → Key
key_in keys zero = []
key_in keys (suc k) = get_or keys k []

-- the pairs, with the texts of their keys
abbrev pub named : List Key → Entries → Props
named keys es = map (λ e. (key_in keys e.0, e.1)) es

-- each number is that of a key
abbrev pub AreNumbers : List Key → Entries → Type 0
AreNumbers keys [] = Unit {0}
AreNumbers keys (e ∷ es) = HasNumber keys (key_in keys e.0) e.0 × AreNumbers keys es

abbrev pub cell_of : List Key → CellData → Cell
cell_of keys d = record { name = d.name; kind = d.kind; props = named keys d.props }

abbrev pub stored : List Key → List CellData → List Cell
stored keys ds = map (cell_of keys) ds

-- each number in the properties of the cells is that of a key
pub record IsNumbered (keys : List Key) (ds : List CellData) : Type 0 where
  pub each : (i : ℕ) (d : CellData) → slice_get ds i ≡ Some d → AreNumbers keys d.props
