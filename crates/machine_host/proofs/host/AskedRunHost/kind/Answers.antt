use Rattle.run_host.proofs.Along.{gives_along}
use Rattle.machine_host.specs.Chain.Goes.{here}
use Rattle.machine_host.proofs.host.AskedRunHost.kind.Goals as goal

pub returns-clause-did : goal.returns-clause-did
returns-clause-did g c = gives_along _ _ _ _ here c.kind.ensures.did
