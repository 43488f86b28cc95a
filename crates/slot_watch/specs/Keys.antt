-- The parts of a cell by the numbers of their keys (own rule).
use Rattle.std.specs.Prelude.{ℕ, zero, suc, List, Option, Some, None, slice_get}
use Rattle.turk_base.specs.Names.{Part, shape, at}
use Rattle.key_table.specs.Keys.{Key}

abbrev pub part_of_key : Option Key → Part
part_of_key (Some k) = at k
part_of_key None = shape

-- the part that a number stands for: 0 is the shape
abbrev pub part_in : List Key → ℕ → Part
part_in keys zero = shape
part_in keys (suc k) = part_of_key (slice_get keys k)
