use Rattle.std.proofs.Common.{◌≡◌, ◌+◌, ◌-◌, ◌*◌, drop, take}
use Rattle.std.specs.Map.{keys_of}
use Rattle.turk_base.specs.Data.{Items, Fields}
use Rattle.turk_base.specs.Steps as model
use Rattle.value_cells.specs.Seen.{Naming}
use Rattle.value_cells.specs.Does.{Told}
use Rattle.run_heap.specs.Core.{Core, Rests}
use Rattle.run_heap.specs.Works.{Works}
use Rattle.run_data.proofs.Takes.{rest_of, fields_left}
use Rattle.run_data.proofs.taking.+taking.Given as goal

abbrev pub decreases-take_object : goal.decreases-take_object
decreases-take_object l = 4 * l.left

abbrev pub decreases-take_value : goal.decreases-take_value
decreases-take_value l = 4 * l.left + 1

abbrev pub decreases-take_items : goal.decreases-take_items
decreases-take_items l = 4 * l.left + 2

abbrev pub decreases-take_fields : goal.decreases-take_fields
decreases-take_fields l = 4 * l.left + 2

abbrev pub decreases-take_array : goal.decreases-take_array
decreases-take_array l = 4 * l.left + 3

abbrev pub decreases-take_plain : goal.decreases-take_plain
decreases-take_plain l = 4 * l.left + 3

abbrev pub invariant-take_items-loop-place : goal.invariant-take_items-loop-place
invariant-take_items-loop-place l = record {
  cells : l.heap.cells ≡ l.initial.heap.cells;
  rests : Rests l.initial.heap l.heap;
  leads : (said : Naming → Told Items) (last : Core) → Works (λ nu. rest_of (model.take l.left) l.cell nu l.place (l.many - l.place) l.items.items) said l.heap last
      → Works (λ nu. model.take_items (model.take l.left) (nu l.cell) 0 l.many) said l.initial.heap last;
}

abbrev pub invariant-take_fields-loop-key : goal.invariant-take_fields-loop-key
invariant-take_fields-loop-key l = record {
  cells : l.heap.cells ≡ l.initial.heap.cells;
  rests : Rests l.initial.heap l.heap;
  keys : keys_of l.fields.items ≡ take l.key-index l.keys;
  leads : (said : Naming → Told Fields) (last : Core) → Works (λ nu. fields_left (model.take l.left) l.cell nu (drop l.key-index l.keys) l.fields.items) said l.heap last
      → Works (λ nu. model.take_fields (model.take l.left) (nu l.cell) l.keys) said l.initial.heap last;
}
