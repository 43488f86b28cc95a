use Rattle.std.proofs.Common.{◌≡◌, take}
use Rattle.std.specs.Map.{keys_of}
use Rattle.value_cells.specs.Held.{props_at}
use Rattle.run_heap.proofs.RunHeap.keys.Given as goal

abbrev pub invariant-loop-place : goal.invariant-loop-place
invariant-loop-place l = l.keys.items ≡ take l.place (keys_of (props_at l.self.cells.now l.cell))
