use Rattle.run_host.proofs.Along.{gives_along}
use Rattle.machine_host.specs.Chain.Goes.{here}
use Rattle.machine_host.proofs.host.AskedRunHost.inherits.Goals as goal

pub returns : goal.returns
returns g c = record { did = gives_along _ _ _ _ here c.inherits.ensures.did }
