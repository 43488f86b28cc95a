use Rattle.run_host.proofs.Along.{takes_along}
use Rattle.machine_host.specs.Laws.{later_still}
use Rattle.machine_host.specs.Chain.Goes.{here, onward}
use Rattle.machine_host.proofs.host.AskedRunHost.put.Goals as goal

pub returns-clause-did : goal.returns-clause-did
returns-clause-did g c = takes_along _ _ _ _ c.put.result (onward _ _ here (later_still _ _ _ _ _ _ _ g.met.A.Asker.keeps_refl _ _ c.put.ensures.still)) c.put.ensures.did
