use Rattle.std.proofs.Common.{◌≡◌, ◌+◌, ◌*◌, take}
use Rattle.turk_base.specs.Data.{size, size_items, size_fields, items_of, fields_of}
use Rattle.turk_base.proofs.+copying.Given as goal

abbrev pub decreases-Data::copy : goal.decreases-Data::copy
decreases-Data::copy l = 2 * size l.self.now

abbrev pub decreases-trees::copy_items : goal.decreases-trees::copy_items
decreases-trees::copy_items l = 2 * size_items (items_of l.items.now) + 1

abbrev pub decreases-trees::copy_fields : goal.decreases-trees::copy_fields
decreases-trees::copy_fields l = 2 * size_fields (fields_of l.fields.now) + 1

abbrev pub invariant-trees::copy_fields-loop-field : goal.invariant-trees::copy_fields-loop-field
invariant-trees::copy_fields-loop-field l = l.copies.items ≡ take l.field-index l.fields

abbrev pub invariant-trees::copy_items-loop-item : goal.invariant-trees::copy_items-loop-item
invariant-trees::copy_items-loop-item l = l.copies.items ≡ take l.item-index l.items
