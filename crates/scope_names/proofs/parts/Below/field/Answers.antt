use Rattle.scope_names.proofs.OtherParts.{field_made}
use Rattle.scope_names.proofs.parts.Below.field.Goals as goal

pub returns : goal.returns
returns g c = field_made c.args.self.now.left c.args.given.now c.in_ok-key.ensures c.in_ok-value.ensures
