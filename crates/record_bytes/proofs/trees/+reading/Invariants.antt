use Rattle.std.proofs.Common.{◌≡◌, ◌+◌, ◌*◌, ◌-◌}
use Rattle.record_bytes.specs.Reading.{data_at, items_at, fields_at}
use Rattle.record_bytes.proofs.Loops.{with_front}
use Rattle.record_bytes.proofs.trees.+reading.Given as goal

-- data takes 5 times the nesting that is left; what reads its parts stands above it, by how far it is from it
abbrev pub decreases-data_of : goal.decreases-data_of
decreases-data_of l = 5 * l.left + 1

abbrev pub decreases-tagged_of : goal.decreases-tagged_of
decreases-tagged_of l = 5 * l.left

abbrev pub decreases-items_of : goal.decreases-items_of
decreases-items_of l = 5 * l.left + 2

abbrev pub decreases-list_of : goal.decreases-list_of
decreases-list_of l = 5 * l.left + 3

abbrev pub decreases-field_of : goal.decreases-field_of
decreases-field_of l = 5 * l.left + 2

abbrev pub decreases-pairs_of : goal.decreases-pairs_of
decreases-pairs_of l = 5 * l.left + 3

abbrev pub decreases-fields_of : goal.decreases-fields_of
decreases-fields_of l = 5 * l.left + 4

abbrev pub invariant-items_of-loop-i : goal.invariant-items_of-loop-i
invariant-items_of-loop-i l = with_front l.items.items (items_at (data_at l.left) (l.count - l.i) l.rest) ≡ items_at (data_at l.left) l.count l.bytes

abbrev pub invariant-pairs_of-loop-i : goal.invariant-pairs_of-loop-i
invariant-pairs_of-loop-i l = with_front l.fields.items (fields_at (data_at l.left) (l.count - l.i) l.rest) ≡ fields_at (data_at l.left) l.count l.bytes
