use Rattle.scope_names.proofs.TwoParts.{two_made}
use Rattle.scope_names.proofs.parts.Below.object_and_body.Goals as goal

pub returns-in-Ok : goal.returns-in-Ok
returns-in-Ok g c = two_made c.in_ok-object.ensures c.in-Ok.ensures
