use Rattle.std.proofs.Common.{ap}
use Rattle.value_cells.specs.Seen.{val_in}
use Rattle.run_heap.proofs.classes.primitive.Goals as goal

pub returns-in-Object : goal.returns-in-Object
returns-in-Object c = λ nu. (nu c.in-Object.field-0, ap (val_in nu) c.in-Object.is)
