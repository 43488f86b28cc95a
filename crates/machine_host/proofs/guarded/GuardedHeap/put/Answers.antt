use Rattle.machine_host.proofs.Answered.{guarded_does}
use Rattle.machine_host.proofs.guarded.GuardedHeap.put.Goals as goal

pub returns-clause-did : goal.returns-clause-did
returns-clause-did c = guarded_does c.args.self.now.machine c.put.new.self c.put.ensures.gone c.put.ensures.did
