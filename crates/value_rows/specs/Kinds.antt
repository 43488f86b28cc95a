-- The cell of a value.
use Rattle.std.specs.Prelude.{ℕ, Option, Some, None}
use Rattle.value_cells.specs.declared.Value.{Value}
use Rattle.value_cells.specs.declared.Value.TheVariants as code

-- where an object was found
abbrev pub cell_in : Option Value → Option ℕ
cell_in (Some (code.Object i)) = Some i
cell_in _ = None
