use Rattle.std.proofs.Common.{ap, sym, ◌∙◌}
use Rattle.js_tree.specs.Operate.{stepped}
use Rattle.turk_base.specs.Operators.{total, difference}
use Rattle.value_rows.proofs.operators.step.Goals as goal

pub returns-in-Plus : goal.returns-in-Plus
returns-in-Plus c = ap (λ s. stepped s c.args.number) c.in-Plus.is ∙ ap (total c.args.number) (sym c.from_u32.ensures) ∙ sym c.add.ensures

pub returns-in-Minus : goal.returns-in-Minus
returns-in-Minus c = ap (λ s. stepped s c.args.number) c.in-Minus.is ∙ ap (difference c.args.number) (sym c.from_u32-in-Minus.ensures) ∙ sym c.sub.ensures
