use Rattle.scope_names.proofs.TwoParts.{three_made}
use Rattle.scope_names.proofs.parts.Below.rest_of_for.Goals as goal

pub returns-in-Ok : goal.returns-in-Ok
returns-in-Ok g c = three_made c.in_ok-test.ensures c.in-Ok.ensures
