use Rattle.call_steps.proofs.Frames.{has_after}
use Rattle.js_tree.specs.Calls.{has}
use Rattle.js_tree.specs.Trees.{declared_name}
use Rattle.std.proofs.Common.{ap, sym, ◌||◌, ◌∙◌}
use Rattle.std.specs.Prelude.{map}
use Rattle.call_steps.proofs.names.is_known.Goals as goal

pub returns-then-is_among : goal.returns-then-is_among
returns-then-is_among c = has_after c.args.parameters.now c.args.functions.now c.args.name.now ∙ ap (λ b. b || has (map declared_name c.args.functions.now) c.args.name.now) (c.is_among.ensures ∙ c.if-is_among.true) ∙ sym c.if-is_among.true

pub returns-else-is_among : goal.returns-else-is_among
returns-else-is_among c = has_after c.args.parameters.now c.args.functions.now c.args.name.now ∙ ap (λ b. b || has (map declared_name c.args.functions.now) c.args.name.now) (c.is_among.ensures ∙ c.if-is_among.false) ∙ c.is_declared.ensures
