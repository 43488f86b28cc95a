use Rattle.std.proofs.Common.{◌≡◌, ◌≤◌, length, drop}
use Rattle.std.specs.Map.{keys_of}
use Rattle.turk_base.specs.Cells.{doomed}
use Rattle.value_cells.specs.Held.{props_at}
use Rattle.run_heap.specs.Lengths.{AllFrom}
use Rattle.run_heap.proofs.RunHeap.doomed.Given as goal

abbrev pub invariant-loop-place : goal.invariant-loop-place
invariant-loop-place l =
    let ks = keys_of (props_at l.self.cells.now l.cell) in
    (l.place ≤ length ks) × (l.keys.items ≡ doomed l.length (drop l.place ks)) × AllFrom l.lowest l.keys.items

abbrev pub decreases-loop-place : goal.decreases-loop-place
decreases-loop-place l = l.place
