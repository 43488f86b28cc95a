use Rattle.run_host.proofs.Along.{takes_along}
use Rattle.machine_host.specs.Chain.Goes.{here, onward}
use Rattle.machine_host.proofs.host.AskedRunHost.post.Goals as goal

pub returns-clause-did : goal.returns-clause-did
returns-clause-did g c = takes_along _ _ _ _ c.post.result (onward _ _ here c.post.ensures.later) c.post.ensures.did
