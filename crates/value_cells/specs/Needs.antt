-- How many cells there must be for what a value, a kind or properties name to exist (own rule).
use Rattle.std.specs.Prelude.{ℕ, suc, max, List, [], ◌∷◌, Option, Some, None}
use Rattle.value_cells.specs.declared.Value.{Value}
use Rattle.value_cells.specs.declared.Value.TheVariants.{Object}
use Rattle.value_cells.specs.declared.CellKind.{CellKind}
use Rattle.value_cells.specs.declared.CellKind.TheVariants.{Frame, Plain, Array, Function, BuiltIn}

-- none for a primitive, and for the cell with the number i one more than i
abbrev pub needs : Value → ℕ
needs (Object i) = suc i
needs _ = 0

abbrev pub option_needs : Option Value → ℕ
option_needs (Some v) = needs v
option_needs None = 0

abbrev pub all_needs : List Value → ℕ
all_needs [] = 0
all_needs (v ∷ vs) = max (needs v) (all_needs vs)

abbrev pub number_needs : Option ℕ → ℕ
number_needs (Some i) = suc i
number_needs None = 0

abbrev pub kind_needs : CellKind → ℕ
kind_needs (Frame parent) = number_needs parent
kind_needs (Plain prototype) = number_needs prototype
kind_needs Array = 0
kind_needs (Function number frame) = suc frame
kind_needs (BuiltIn which) = 0

abbrev pub props_needs : List (List ℕ × Value) → ℕ
props_needs [] = 0
props_needs (e ∷ es) = max (needs e.1) (props_needs es)
