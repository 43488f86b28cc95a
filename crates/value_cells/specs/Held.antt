-- What a contract sees of cells: those that there are, and those that there were at each open mark.
use Rattle.std.specs.Prelude.{◌≡◌, ◌≤◌, ℕ, zero, suc, nat_eq, Bool, List, [], ◌∷◌, length, map, Option, Some, None, slice_get}
use Rattle.std.specs.Cmp.Lexicographic.{pointwise}
use Rattle.std.specs.Map.{lookup}
use Rattle.value_cells.specs.declared.Value.{Value}
use Rattle.value_cells.specs.declared.CellKind.{CellKind}
use Rattle.value_cells.specs.declared.CellName.{CellName}
use Rattle.value_cells.specs.Needs.{kind_needs, props_needs}

-- a text's units, as a key
abbrev pub Key : Type 0
Key = List ℕ

-- pairs of a key and a value in order
abbrev pub Props : Type 0
Props = List (Key × Value)

-- a cell, with other cells by their numbers
pub record Cell : Type 0 where
  pub name : CellName
  pub kind : CellKind
  pub props : Props

-- the cells in the order of making, and those at each open mark, the newest last
pub record Held : Type 0 where
  pub now : List Cell
  pub marks : List (List Cell)

abbrev pub key_eq : Key → Key → Bool
key_eq a b = pointwise nat_eq a b

abbrev pub count : List Cell → ℕ
count cells = length cells

abbrev pub names_of : List Cell → List CellName
names_of cells = map (λ c. c.name) cells

abbrev pub kinds_of : List Cell → List CellKind
kinds_of cells = map (λ c. c.kind) cells

abbrev pub props_in : Option Cell → Props
props_in (Some c) = c.props
props_in None = []

-- the properties of the cell with that number
abbrev pub props_at : List Cell → ℕ → Props
props_at cells i = props_in (slice_get cells i)

-- and its property under a key
abbrev pub own : List Cell → ℕ → Key → Option Value
own cells i key = lookup (key_eq key) (props_at cells i)

-- the cells, with other properties of the cell with that number
abbrev pub with_props : List Cell → ℕ → Props → List Cell
with_props [] i ps = []
with_props (c ∷ cs) zero ps = record c { props = ps } ∷ cs
with_props (c ∷ cs) (suc i) ps = c ∷ with_props cs i ps

-- Each cell names cells made before it, each property a cell that is there, and no name is given twice.
pub record IsWhole (cells : List Cell) : Type 0 where
  pub older : (i : ℕ) (k : CellKind) → slice_get (kinds_of cells) i ≡ Some k → kind_needs k ≤ i
  pub exist : (i : ℕ) (c : Cell) → slice_get cells i ≡ Some c → props_needs c.props ≤ length cells
  pub distinct : (i j : ℕ) (n : CellName) → slice_get (names_of cells) i ≡ Some n → slice_get (names_of cells) j ≡ Some n → i ≡ j
