use Rattle.std.proofs.Common.{sym, ◌∙◌}
use Rattle.convert_rules.proofs.Texts.{rest_is, literal_some}
use Rattle.convert_rules.proofs.literals.is_decimal_literal.Goals as goal

pub returns-else-not-is_pointed : goal.returns-else-not-is_pointed
returns-else-not-is_pointed c =
    literal_some c.args.units.now c.in-Some.place _ _ (rest_is c.args.units.now c.in-Some.place) (sym c.is_infinity.ensures ∙ c.if-is_infinity.false) c.in-Some.ensures (sym c.is_pointed-in-Some.ensures ∙ c.if-not-is_pointed.false) c.is_exponent.ensures
