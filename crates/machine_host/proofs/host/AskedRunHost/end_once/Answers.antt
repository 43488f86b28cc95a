use Rattle.machine_host.proofs.Lifted.{once_ends_along}
use Rattle.machine_host.specs.Chain.Goes.{here, onward}
use Rattle.machine_host.proofs.host.AskedRunHost.end_once.Goals as goal

pub returns-clause-did : goal.returns-clause-did
returns-clause-did g c = once_ends_along _ _ (onward _ _ here c.end_once.ensures.later) _ _ c.end_once.ensures.did
