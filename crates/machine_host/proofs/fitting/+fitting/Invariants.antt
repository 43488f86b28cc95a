use Rattle.std.proofs.Common.{◌+◌, ◌*◌, take}
use Rattle.machine_host.proofs.Fitted.{ItemsFit, FieldsFit}
use Rattle.machine_host.proofs.fitting.+fitting.Given as goal

abbrev pub decreases-node_fits : goal.decreases-node_fits
decreases-node_fits l = 2 * l.left

abbrev pub decreases-items_fit : goal.decreases-items_fit
decreases-items_fit l = 2 * l.left + 1

abbrev pub decreases-fields_fit : goal.decreases-fields_fit
decreases-fields_fit l = 2 * l.left + 1

abbrev pub invariant-items_fit-loop-item : goal.invariant-items_fit-loop-item
invariant-items_fit-loop-item l = ItemsFit l.left (take l.item-index l.items)

abbrev pub invariant-fields_fit-loop-field : goal.invariant-fields_fit-loop-field
invariant-fields_fit-loop-field l = FieldsFit l.left (take l.field-index l.fields)
