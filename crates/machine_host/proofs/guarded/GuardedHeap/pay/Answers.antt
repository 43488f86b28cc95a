use Rattle.machine_host.proofs.Answered.{guarded_does}
use Rattle.machine_host.proofs.guarded.GuardedHeap.pay.Goals as goal

pub returns-clause-did : goal.returns-clause-did
returns-clause-did c = guarded_does c.args.self.now.machine c.pay.new.self c.pay.ensures.gone c.pay.ensures.did
