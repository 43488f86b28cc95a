use Rattle.std.proofs.Common.{◌≡◌, ◌<◌, drop}
use Rattle.turk_base.specs.Cells.{class_of, class_of_number, digits_on}
use Rattle.run_heap.proofs.classes.class.Given as goal

abbrev pub invariant-loop-unit : goal.invariant-loop-unit
invariant-loop-unit l = (l.number < 4294967295) × (class_of l.key ≡ class_of_number (digits_on l.number (drop l.unit-index l.key)))
