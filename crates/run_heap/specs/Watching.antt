-- The verdict rule over the slots of a heap.
use Rattle.std.specs.Prelude.{◌≡◌}
use Rattle.branch_check.specs.Watch.{Watch}
use Rattle.value_cells.specs.Seen.{Naming, Fits}
use Rattle.slot_watch.specs.Named.{named}
use Rattle.run_heap.specs.Core.{Core, names_in}

-- The open slots and the verdict become what f makes of them, by the names of their cells, and nothing else changes.
pub record Watches (f : Watch → Watch) (old new : Core) : Type 0 where
  pub cells : new.cells ≡ old.cells
  pub made : new.place.made ≡ old.place.made
  pub left : new.left ≡ old.left
  pub now : (nu : Naming) → Fits nu (names_in old.cells.now) → named nu new.slots.keys new.slots.current ≡ f (named nu old.slots.keys old.slots.current)
