use Rattle.std.proofs.Common.{ap}
use Rattle.turk_base.specs.Conversions.{text_in}
use Rattle.turk_base.specs.Prog.{given}
use Rattle.value_cells.specs.Seen.{val_in}
use Rattle.value_rows.proofs.Given.{primitive_given}
use Rattle.value_rows.proofs.sums.primitive.Goals as goal

pub returns-in-Object : goal.returns-in-Object
returns-in-Object c = λ nu go. ap (λ v. given (text_in (val_in nu v)) (λ _. go)) c.in-Object.is

pub returns-in_default : goal.returns-in_default
returns-in_default c = λ nu go. primitive_given c.args.value.now c.in_default.not-Object nu go
