use Rattle.std.proofs.Common.{◌+◌, ◌*◌, ◌≤◌, drop}
use Rattle.turk_base.specs.Values.{Val}
use Rattle.turk_base.specs.Data.{items_of, fields_of}
use Rattle.turk_base.specs.Steps.{put_items, put_fields}
use Rattle.value_cells.specs.Seen.{Naming}
use Rattle.value_cells.specs.Does.{Told}
use Rattle.run_heap.specs.Core.{Core, count, Rests}
use Rattle.run_heap.specs.Works.{Works}
use Rattle.run_data.proofs.putting.+putting.Given as goal

abbrev pub decreases-put_list : goal.decreases-put_list
decreases-put_list l = 3 * l.left

abbrev pub decreases-put_plain : goal.decreases-put_plain
decreases-put_plain l = 3 * l.left

abbrev pub decreases-put_node : goal.decreases-put_node
decreases-put_node l = 3 * l.left + 1

abbrev pub decreases-put_items : goal.decreases-put_items
decreases-put_items l = 3 * l.left + 2

abbrev pub decreases-put_fields : goal.decreases-put_fields
decreases-put_fields l = 3 * l.left + 2

abbrev pub invariant-put_items-loop-place : goal.invariant-put_items-loop-place
invariant-put_items-loop-place l = record {
  more : count l.initial.heap ≤ count l.heap;
  rests : Rests l.initial.heap l.heap;
  leads : (said : Naming → Told Val) (last : Core) → Works (λ nu. put_items (nu l.cell) l.place (items_of (drop l.place l.items))) said l.heap last
      → Works (λ nu. put_items (nu l.cell) 0 (items_of l.items)) said l.initial.heap last;
}

abbrev pub invariant-put_fields-loop-field : goal.invariant-put_fields-loop-field
invariant-put_fields-loop-field l = record {
  more : count l.initial.heap ≤ count l.heap;
  rests : Rests l.initial.heap l.heap;
  leads : (said : Naming → Told Val) (last : Core) → Works (λ nu. put_fields (nu l.cell) (fields_of (drop l.field-index l.fields))) said l.heap last
      → Works (λ nu. put_fields (nu l.cell) (fields_of l.fields)) said l.initial.heap last;
}
