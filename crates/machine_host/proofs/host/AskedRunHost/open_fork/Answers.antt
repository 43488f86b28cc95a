use Rattle.machine_host.proofs.Lifted.{forked_along, out_along}
use Rattle.turk_base.specs.Prog.{Fork}
use Rattle.machine_host.specs.Chain.Goes.{here, onward}
use Rattle.machine_host.proofs.host.AskedRunHost.open_fork.Goals as goal

pub returns-clause-opened : goal.returns-clause-opened
returns-clause-opened g c = forked_along _ _ (onward _ _ here c.open_fork.ensures.later) c.open_fork.result c.open_fork.ensures.opened

pub returns-clause-out : goal.returns-clause-out
returns-clause-out g c = out_along _ _ (onward _ _ here c.open_fork.ensures.later) (λ g nu. Fork (g nu)) c.open_fork.result c.open_fork.ensures.out
