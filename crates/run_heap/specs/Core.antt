-- What a contract sees of the heap of a run: its cells by numbers, the watch over their slots, the scope that runs, those around it, and the fuel left.
use Rattle.std.specs.Prelude.{◌≡◌, ℕ, List, length, map}
use Rattle.turk_base.specs.Names.{Name}
use Rattle.value_cells.specs.Held.{Cell, Held, names_of}
use Rattle.value_cells.specs.Seen.{name_in}
use Rattle.slot_watch.specs.Slots.{Slots, KeepsMarks}
use Rattle.run_heap.specs.declared.Place.{Place}

pub record Core : Type 0 where
  pub cells : Held
  pub slots : Slots
  pub place : Place
  pub outer : List Place
  pub left : ℕ

-- how many cells there are
abbrev pub count : Core → ℕ
count c = length c.cells.now

-- the names of the cells by their numbers
abbrev pub names_in : List Cell → List Name
names_in cells = map name_in (names_of cells)

-- The same scope runs, and what taking back gives is as it was.
pub record Rests (old new : Core) : Type 0 where
  pub cells : new.cells.marks ≡ old.cells.marks
  pub slots : KeepsMarks old.slots new.slots
  pub path : new.place.path ≡ old.place.path
  pub branch : new.place.branch ≡ old.place.branch
  pub calls : new.place.calls ≡ old.place.calls
  pub outer : new.outer ≡ old.outer
