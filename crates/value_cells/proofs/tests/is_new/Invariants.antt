use Rattle.std.proofs.Common.{◌≡◌, ℕ, Some, slice_get, ◌<◌}
use Rattle.value_cells.specs.declared.CellName.{CellName}
use Rattle.value_cells.specs.Held.{names_of}
use Rattle.value_cells.proofs.tests.is_new.Given as goal

abbrev pub invariant-loop-cell : goal.invariant-loop-cell
invariant-loop-cell l = (i : ℕ) (n : CellName) → i < l.cell → slice_get (names_of l.cells.now) i ≡ Some n → n.number ≡ l.number → ⊥
