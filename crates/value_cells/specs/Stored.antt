-- How the fields of Cells give what a contract sees: the cells hold numbers, which stand for the keys of the table.
use Rattle.std.specs.Prelude.{◌≡◌, ◌≤◌, ℕ, List, length, map, Some, slice_get}
use Rattle.key_table.specs.Keys.{Key, AreDistinct}
use Rattle.value_cells.specs.declared.CellData.{CellData}
use Rattle.value_cells.specs.declared.Cells.TheInside.{Inside}
use Rattle.value_cells.specs.declared.history.Point.{Point}
use Rattle.value_cells.specs.Held.{Held, IsWhole}
use Rattle.value_cells.specs.Named.{stored, IsNumbered}
use Rattle.value_cells.specs.Undone.{befores, AreNested}

-- the cells at each open mark, the newest last
abbrev pub past : Inside → List (List CellData)
past a = befores a.history.steps.items a.history.marks.items a.cells.items

abbrev pub held : Inside → Held
held a = record { now = stored a.keys a.cells.items; marks = map (stored a.keys) (past a) }

-- whole cells, in whose properties each number is that of a key
pub record AreKept (keys : List Key) (ds : List CellData) : Type 0 where
  pub whole : IsWhole (stored keys ds)
  pub numbers : IsNumbered keys ds

-- The cells are kept so, and those at each open mark. No key stands twice. The marks were set one after another, with no more cells
-- than there are.
pub record IsGood (a : Inside) : Type 0 where
  pub now : AreKept a.keys a.cells.items
  pub marks : (i : ℕ) (ds : List CellData) → slice_get (past a) i ≡ Some ds → AreKept a.keys ds
  pub distinct : AreDistinct a.keys
  pub nested : AreNested (length a.history.steps.items) a.history.marks.items
  pub within : (i : ℕ) (p : Point) → slice_get a.history.marks.items i ≡ Some p → p.cells ≤ length a.cells.items
