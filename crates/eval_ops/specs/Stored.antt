-- How the fields of a machine give what a contract sees, and what is true of them.
use Rattle.std.specs.Prelude.{◌≡◌, ◌<◌, ◌≤◌, ℕ, List, length, Some, slice_get, vec_capacity}
use Rattle.value_cells.specs.Needs.{all_needs}
use Rattle.value_cells.specs.Held.{Cell}
use Rattle.eval_ops.specs.declared.Outer.{Outer}
use Rattle.eval_ops.specs.declared.Machine.TheInside.{Inside}
use Rattle.eval_ops.specs.Run.{Run}

abbrev pub run_of : Inside → Run
run_of a = record {
  heap = a.heap;
  body = a.body;
  values = a.values.items;
  text = a.output;
  gone = a.gone.items;
  outer = a.outer.items;
  left_back = a.left_back;
}

-- Values of branches name cells that there were, and what was printed and absent when a scope was left was no more than when a scope
-- in it was.
pub record IsRun (m : Run) : Type 0 where
  pub values : all_needs m.values ≤ length m.heap.cells.now
  pub kept_values : (i : ℕ) (o : Outer) (cells : List Cell) → slice_get m.outer i ≡ Some o → slice_get m.heap.cells.marks i ≡ Some cells → all_needs o.values.items ≤ length cells
  pub as_many : length m.outer ≡ length m.heap.outer
  pub printed : (i : ℕ) (o : Outer) → slice_get m.outer i ≡ Some o → o.printed ≤ length m.text
  pub absent : (i : ℕ) (o : Outer) → slice_get m.outer i ≡ Some o → o.absent ≤ length m.gone
  pub ordered : (i j : ℕ) (o p : Outer) → i < j → slice_get m.outer i ≡ Some o → slice_get m.outer j ≡ Some p → (o.printed ≤ p.printed) × (o.absent ≤ p.absent)

-- there is room to note that a branch is absent, without taking memory
pub record HasRoom (m : Run) (capacity : ℕ) : Type 0 where
  pub kept : (i : ℕ) (o : Outer) → slice_get m.outer i ≡ Some o → o.absent < capacity
  pub now : (p : List ℕ) → m.left_back ≡ Some p → length m.gone < capacity

pub record IsMachine (a : Inside) : Type 0 where
  pub run : IsRun (run_of a)
  pub room : HasRoom (run_of a) (vec_capacity a.gone)
