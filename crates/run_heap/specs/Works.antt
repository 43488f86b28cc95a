-- What a call on the heap of a run did: the steps of a program, as the definitions have them.
use Rattle.std.specs.Prelude.{ℕ}
use Rattle.turk_base.specs.Steps.{Small}
use Rattle.value_cells.specs.Seen.{Naming, Seen, Fits}
use Rattle.value_cells.specs.Does.{Told, Did, Stays, comes_from}
use Rattle.run_heap.specs.Core.{Core}
use Rattle.run_heap.specs.Placed.{Around, seen_in}

-- steps, under each naming of the cells that there are at the end
pub record Performs {A : Type 0} (g : Naming → Small A) (said : Naming → Told A) (old new : Seen) : Type 0 where
  pub stays : Stays old new
  pub did : (nu : Naming) → Fits nu new.names → Did (comes_from (g nu) nu old) (said nu) (new.first nu) new.left

-- wherever the heap stands
pub record Works {A : Type 0} (g : Naming → Small A) (said : Naming → Told A) (old new : Core) : Type 0 where
  pub all : (r : Around) → Performs g said (seen_in r old) (seen_in r new)
