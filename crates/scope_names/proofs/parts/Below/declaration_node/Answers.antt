use Rattle.scope_names.proofs.FrameParts.{declaration_made}
use Rattle.scope_names.proofs.TurnedParts.{body_turned}
use Rattle.std.proofs.Common.{◌∙◌}
use Rattle.scope_names.proofs.parts.Below.declaration_node.Goals as goal

pub returns : goal.returns
returns g c = declaration_made c.args.self.now.left c.args.given.now c.in_ok-name.ensures (c.in_ok-parameters.ensures ∙ c.parameters.ensures) (body_turned c.args.self.now.left c.parameters-2.ensures c.body.ensures c.in_ok-body.ensures)
