use Rattle.std.proofs.Common.{sym, ◌∙◌}
use Rattle.convert_rules.proofs.Texts.{cut_found}
use Rattle.convert_rules.proofs.literals.exponent_place.Goals as goal

pub returns-then-is_exponent_mark : goal.returns-then-is_exponent_mark
returns-then-is_exponent_mark c =
    cut_found _ c.args.units.now c.loop-place.place c.loop-place-test.true (sym c.is_exponent_mark.ensures ∙ c.if-is_exponent_mark.true) c.loop-place.invariant.0 c.loop-place.invariant.1
