use Rattle.std.proofs.Common.{◌≡◌, ◌+◌, ◌*◌, ◌++◌, take}
use Rattle.turk_base.specs.Data.{items_of, fields_of}
use Rattle.record_bytes.specs.Spelling.{items_bytes, fields_bytes}
use Rattle.record_bytes.specs.Limits.{AreItems, AreFields}
use Rattle.record_bytes.proofs.trees.+putting.Given as goal

abbrev pub decreases-put_node : goal.decreases-put_node
decreases-put_node l = 2 * l.left

abbrev pub decreases-put_items : goal.decreases-put_items
decreases-put_items l = 2 * l.left + 1

abbrev pub decreases-put_fields : goal.decreases-put_fields
decreases-put_fields l = 2 * l.left + 1

abbrev pub invariant-put_items-loop-item : goal.invariant-put_items-loop-item
invariant-put_items-loop-item l = (l.out.items ≡ l.initial.out.items ++ items_bytes (items_of (take l.item-index l.items))) × AreItems (items_of (take l.item-index l.items))

abbrev pub invariant-put_fields-loop-field : goal.invariant-put_fields-loop-field
invariant-put_fields-loop-field l = (l.out.items ≡ l.initial.out.items ++ fields_bytes (fields_of (take l.field-index l.fields))) × AreFields (fields_of (take l.field-index l.fields))
