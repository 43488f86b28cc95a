use Rattle.std.proofs.Common.{sym, ◌∙◌}
use Rattle.convert_rules.proofs.Texts.{hex_of_digits}
use Rattle.convert_rules.proofs.literals.read_decimal.Goals as goal

pub value-requires-clause-digits : goal.value-requires-clause-digits
value-requires-clause-digits c = hex_of_digits c.unsigned-digits.result.now (sym c.are_digits.ensures ∙ c.if-not-are_digits.false)
