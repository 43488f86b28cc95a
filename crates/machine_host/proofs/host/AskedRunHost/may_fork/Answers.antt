use Rattle.run_host.proofs.Along.{takes_along}
use Rattle.machine_host.specs.Chain.Goes.{here}
use Rattle.machine_host.proofs.host.AskedRunHost.may_fork.Goals as goal

pub returns-clause-did : goal.returns-clause-did
returns-clause-did g c = takes_along _ _ _ _ c.may_fork.result here c.may_fork.ensures.did
