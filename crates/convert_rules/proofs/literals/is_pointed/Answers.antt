use Rattle.std.proofs.Common.{sym, ◌∙◌}
use Rattle.convert_rules.proofs.Texts.{rest_is, pointed_part, pointed_whole}
use Rattle.convert_rules.proofs.literals.is_pointed.Goals as goal

pub returns-then-not-are_digits-2 : goal.returns-then-not-are_digits-2
returns-then-not-are_digits-2 c =
    pointed_part c.args.units.now c.in-Some.place _ (rest_is c.args.units.now c.in-Some.place) c.in-Some.ensures (sym c.are_digits-in-Some.ensures ∙ c.if-not-are_digits.false) (sym c.are_digits-in-Some-2.ensures ∙ c.if-not-are_digits-2.true)

pub returns-else-not-are_digits-2 : goal.returns-else-not-are_digits-2
returns-else-not-are_digits-2 c =
    pointed_whole c.args.units.now c.in-Some.place _ (rest_is c.args.units.now c.in-Some.place) c.in-Some.ensures (sym c.are_digits-in-Some.ensures ∙ c.if-not-are_digits.false) (sym c.are_digits-in-Some-2.ensures ∙ c.if-not-are_digits-2.false)
