-- What is true of each heap of a run.
use Rattle.std.specs.Prelude.{◌≡◌, ◌<◌, ℕ, List, length, Some, slice_get}
use Rattle.turk_base.specs.Names.{Name, cell, Under, sub, home, path_in}
use Rattle.branch_check.specs.Watch.{Kept}
use Rattle.value_cells.specs.Held.{Cell}
use Rattle.value_cells.specs.Seen.{Grows}
use Rattle.slot_watch.specs.Within.{CellsWithin}
use Rattle.slot_watch.specs.Named.{cell_number}
use Rattle.run_heap.specs.declared.Place.{Place}
use Rattle.run_heap.specs.Core.{Core, names_in}

-- the cells that a scope made have numbers below the next, and those below it stand below calls that were counted
pub record Older (place : Place) (names : List Name) : Type 0 where
  pub own : (i : ℕ) (n : Name) → slice_get names i ≡ Some n → home n ≡ path_in place.path → cell_number n < place.made
  pub below : (i k : ℕ) (n : Name) → slice_get names i ≡ Some n → Under (sub k (path_in place.path)) (home n) → k < place.calls

-- The branch holds the scope.
abbrev pub IsIn : Place → Type 0
IsIn place = Under (path_in place.branch) (path_in place.path)

-- scopes around the one that runs: each is shorter than those in it, which stand below its counted calls
pub record Nested (place : Place) (outer : List Place) : Type 0 where
  pub shorter : (i : ℕ) (o : Place) → slice_get outer i ≡ Some o → length o.path < length place.path
  pub apart : (i j : ℕ) (o p : Place) → i < j → slice_get outer i ≡ Some o → slice_get outer j ≡ Some p → length o.path < length p.path
  pub inside : (i k : ℕ) (o : Place) → slice_get outer i ≡ Some o → Under (sub k (path_in o.path)) (path_in place.path) → k < o.calls
  pub between : (i j k : ℕ) (o p : Place) → i < j → slice_get outer i ≡ Some o → slice_get outer j ≡ Some p → Under (sub k (path_in o.path)) (path_in p.path) → k < o.calls
  pub branches : (i : ℕ) (o : Place) → slice_get outer i ≡ Some o → IsIn o
  pub here : IsIn place

-- cells at open marks: the earlier are the first of the later
pub record Marked (now : List Cell) (marks : List (List Cell)) (slots : List Kept) : Type 0 where
  pub first : (i : ℕ) (a : List Cell) → slice_get marks i ≡ Some a → Grows (names_in a) (names_in now)
  pub before : (i j : ℕ) (a b : List Cell) → i < j → slice_get marks i ≡ Some a → slice_get marks j ≡ Some b → Grows (names_in a) (names_in b)
  pub within : (i : ℕ) (a : List Cell) (k : Kept) → slice_get marks i ≡ Some a → slice_get slots i ≡ Some k → CellsWithin (length a) k

pub record IsCore (c : Core) : Type 0 where
  pub own : Older c.place (names_in c.cells.now)
  pub others : (i : ℕ) (o : Place) → slice_get c.outer i ≡ Some o → Older o (names_in c.cells.now)
  pub nested : Nested c.place c.outer
  pub marked : Marked c.cells.now c.cells.marks c.slots.marks
  pub within : CellsWithin (length c.cells.now) c.slots.current
  pub as_many_cells : length c.cells.marks ≡ length c.outer
  pub as_many_slots : length c.slots.marks ≡ length c.outer
