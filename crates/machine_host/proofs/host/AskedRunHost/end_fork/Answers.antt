use Rattle.machine_host.proofs.Lifted.{fork_ends_along}
use Rattle.machine_host.specs.Laws.{later_still}
use Rattle.machine_host.specs.Chain.Goes.{here, onward}
use Rattle.machine_host.proofs.host.AskedRunHost.end_fork.Goals as goal

pub returns-clause-did : goal.returns-clause-did
returns-clause-did g c = fork_ends_along _ _ (onward _ _ here (later_still _ _ _ _ _ _ _ g.met.A.Asker.keeps_refl _ _ c.end_fork.ensures.still)) _ _ c.end_fork.ensures.did
