use Rattle.std.proofs.Common.{ap, reverse, ◌∙◌}
use Rattle.turk_base.specs.Conversions.{read_text}
use Rattle.turk_base.specs.Conversions as spec
use Rattle.convert_rules.proofs.literals.read_text.Goals as goal

pub returns : goal.returns
unfolding read_text
returns c =
    c.read_trimmed.ensures ∙ ap spec.read_trimmed (c.trim_end.ensures ∙ ap (λ t. reverse (spec.trim_front (reverse t))) c.trim_start.ensures)
