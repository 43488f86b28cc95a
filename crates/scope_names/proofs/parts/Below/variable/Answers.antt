use Rattle.scope_names.proofs.OtherParts.{variable_made}
use Rattle.scope_names.proofs.parts.Below.variable.Goals as goal

pub returns : goal.returns
returns g c = variable_made c.args.self.now.left c.args.given.now c.in_ok-named.ensures c.in_ok-value.ensures
