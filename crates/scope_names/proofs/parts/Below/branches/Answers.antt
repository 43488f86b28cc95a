use Rattle.scope_names.proofs.TwoParts.{two_made}
use Rattle.scope_names.proofs.parts.Below.branches.Goals as goal

pub returns : goal.returns
returns g c = two_made c.in_ok-then.ensures c.in_ok-otherwise.ensures
