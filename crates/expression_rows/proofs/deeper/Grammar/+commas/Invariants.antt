use Rattle.std.proofs.Common.{◌-◌}
use Rattle.expression_rows.proofs.deeper.Grammar.+commas.Given as goal

abbrev pub decreases-commas : goal.decreases-commas
decreases-commas g l = 201 - l.height
