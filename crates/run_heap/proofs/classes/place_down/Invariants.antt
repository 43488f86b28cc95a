use Rattle.std.proofs.Common.{◌≡◌, ◌<◌, ◌≤◌, ℕ, true, Some, slice_get, length}
use Rattle.turk_base.specs.Cells.{class_of, index, lower_than}
use Rattle.value_cells.specs.Held.{Key}
use Rattle.run_heap.proofs.classes.place_down.Given as goal

abbrev pub invariant-loop-place : goal.invariant-loop-place
invariant-loop-place l = (j : ℕ) (x : Key) → j < l.place → slice_get l.keys j ≡ Some x → (k : Key) → class_of k ≡ index l.at → lower_than (class_of k) (class_of x) ≡ true
