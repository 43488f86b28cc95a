use Rattle.js_tree.specs.Calls.{has}
use Rattle.std.proofs.Common.{ap, sym, ◌||◌, ◌∙◌}
use Rattle.call_steps.proofs.names.is_there.Goals as goal

pub returns-then-is_known : goal.returns-then-is_known
returns-then-is_known c = ap (λ b. b || has c.args.variables.now c.args.name.now) (c.is_known.ensures ∙ c.if-is_known.true) ∙ sym c.if-is_known.true

pub returns-else-is_known : goal.returns-else-is_known
returns-else-is_known c = ap (λ b. b || has c.args.variables.now c.args.name.now) (c.is_known.ensures ∙ c.if-is_known.false) ∙ c.is_among.ensures
