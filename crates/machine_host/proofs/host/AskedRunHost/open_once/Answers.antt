use Rattle.machine_host.proofs.Lifted.{kept_along, opened_along, out_along}
use Rattle.turk_base.specs.Prog.{Once}
use Rattle.machine_host.specs.Chain.Goes.{here, onward}
use Rattle.machine_host.proofs.host.AskedRunHost.open_once.Goals as goal

pub returns-clause-kept : goal.returns-clause-kept
returns-clause-kept g c = kept_along _ _ (onward _ _ here c.open_once.ensures.later) c.open_once.result c.open_once.ensures.kept

pub returns-clause-opened : goal.returns-clause-opened
returns-clause-opened g c = opened_along _ _ (onward _ _ here c.open_once.ensures.later) c.open_once.result c.open_once.ensures.opened

pub returns-clause-out : goal.returns-clause-out
returns-clause-out g c = out_along _ _ (onward _ _ here c.open_once.ensures.later) (λ g nu. Once (g nu)) c.open_once.result c.open_once.ensures.out
