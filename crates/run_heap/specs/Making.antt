-- A cell is made (ECMA-262 3rd ed. 15.4.2 for the length of an array).
use Rattle.std.specs.Prelude.{◌≡◌, ℕ, suc, pos, List, [], ◌∷◌, ◌++◌}
use Rattle.turk_base.specs.Cells.{length_key}
use Rattle.value_cells.specs.declared.Value.TheVariants.{Number}
use Rattle.value_cells.specs.declared.CellKind.{CellKind}
use Rattle.value_cells.specs.declared.CellKind.TheVariants.{Frame, Plain, Array, Function, BuiltIn}
use Rattle.value_cells.specs.Held.{Cell, Props}
use Rattle.run_heap.specs.Core.{Core, count}

-- The cell c of the scope that runs is added, and nothing else changes but the scope's count of cells.
pub record Adds (c : Cell) (old new : Core) : Type 0 where
  pub cells : new.cells.now ≡ old.cells.now ++ c ∷ []
  pub slots : new.slots ≡ old.slots
  pub made : new.place.made ≡ suc old.place.made
  pub path : new.place.path ≡ old.place.path
  pub branch : new.place.branch ≡ old.place.branch
  pub calls : new.place.calls ≡ old.place.calls
  pub left : new.left ≡ old.left
  pub scope : c.name.scope ≡ old.place.path
  pub number : c.name.number ≡ old.place.made

-- A cell of a kind, with these properties, is added, and stands at that number.
pub record AddsAt (kind : CellKind) (props : Props) (number : ℕ) (old new : Core) : Type 0 where
  pub what : Cell
  pub kind_is : what.kind ≡ kind
  pub props_are : what.props ≡ props
  pub adds : Adds what old new
  pub number_is : number ≡ count old

-- the length of a new array
abbrev pub array_props : Props
array_props = (length_key, Number (pos 0)) ∷ []

-- A kind whose cells begin with no property.
abbrev pub IsBare : CellKind → Type 0
IsBare (Frame p) = Unit {0}
IsBare (Plain p) = Unit {0}
IsBare Array = ⊥
IsBare (Function n f) = Unit {0}
IsBare (BuiltIn w) = Unit {0}
