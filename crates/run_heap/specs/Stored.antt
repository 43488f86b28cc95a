-- How the fields give what a contract sees.
use Rattle.run_heap.specs.declared.RunHeap.TheInside.{Inside}
use Rattle.run_heap.specs.Core.{Core}
use Rattle.run_heap.specs.Whole.{IsCore}

abbrev pub core_of : Inside → Core
core_of a = record { cells = a.cells; slots = a.slots; place = a.place; outer = a.outer.items; left = a.left }

abbrev pub IsKept : Inside → Type 0
IsKept a = IsCore (core_of a)
