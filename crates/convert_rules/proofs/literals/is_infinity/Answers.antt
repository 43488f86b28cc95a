use Rattle.std.proofs.Common.{◌∙◌}
use Rattle.convert_rules.proofs.Texts.{same_is_pointwise}
use Rattle.convert_rules.proofs.literals.is_infinity.Goals as goal

pub returns : goal.returns
returns c = c.eq.ensures ∙ rw c.as_slice.ensures (same_is_pointwise c.args.units.now _)
