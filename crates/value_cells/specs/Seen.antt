-- How a heap is seen, and what the numbers of its cells stand for under a naming of them.
use Rattle.std.specs.Prelude.{◌≡◌, ℕ, Bool, List, length, Some, slice_get}
use Rattle.std.specs.Option.{option_map}
use Rattle.turk_base.specs.Names.{Path, path_in, Name, cell}
use Rattle.turk_base.specs.Values as model
use Rattle.turk_base.specs.Values.{Val, Kind}
use Rattle.turk_base.specs.State.{St}
use Rattle.value_cells.specs.declared.Value.{Value}
use Rattle.value_cells.specs.declared.Value.TheVariants.{Undefined, Null, Truth, Number, Text, Object}
use Rattle.value_cells.specs.declared.CellKind.{CellKind}
use Rattle.value_cells.specs.declared.CellKind.TheVariants.{Frame, Plain, Array, Function, BuiltIn}
use Rattle.value_cells.specs.declared.CellName.{CellName}

-- what each number of a cell stands for
abbrev pub Naming : Type 0
Naming = ℕ → Name

-- an open scope: its path, its branch, whether it is in a once body, and the first part of the state that taking it back gives
pub record Scope : Type 0 where
  pub path : Path
  pub branch : Path
  pub body : Bool
  pub back : Naming → St

-- the names of the cells by their numbers, the first part of the state, the scope that runs, the scopes around it, and the fuel left
pub record Seen : Type 0 where
  pub names : List Name
  pub first : Naming → St
  pub scope : Scope
  pub outer : List Scope
  pub left : ℕ

-- how many cells there are
abbrev pub count : Seen → ℕ
count s = length s.names

-- it gives each cell that is there its name
pub record Fits (nu : Naming) (names : List Name) : Type 0 where
  pub agrees : (i : ℕ) (n : Name) → slice_get names i ≡ Some n → nu i ≡ n

-- the one are the first of the other
abbrev pub Grows : List Name → List Name → Type 0
Grows old new = (i : ℕ) (n : Name) → slice_get old i ≡ Some n → slice_get new i ≡ Some n

abbrev pub name_in : CellName → Name
name_in n = cell (path_in n.scope) n.number

abbrev pub val_in : Naming → Value → Val
val_in nu Undefined = model.Undefined
val_in nu Null = model.Null
val_in nu (Truth b) = model.Truth b
val_in nu (Number z) = model.Number z
val_in nu (Text t) = model.Text t
val_in nu (Object i) = model.Object (nu i)

abbrev pub kind_in : Naming → CellKind → Kind
kind_in nu (Frame parent) = model.Frame (option_map nu parent)
kind_in nu (Plain prototype) = model.Plain (option_map nu prototype)
kind_in nu Array = model.Array
kind_in nu (Function number frame) = model.Function number (nu frame)
kind_in nu (BuiltIn which) = model.BuiltIn which
