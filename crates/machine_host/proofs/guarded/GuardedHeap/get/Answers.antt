use Rattle.machine_host.proofs.Answered.{guarded_does}
use Rattle.machine_host.proofs.guarded.GuardedHeap.get.Goals as goal

pub returns-clause-did : goal.returns-clause-did
returns-clause-did c = guarded_does c.args.self.now.machine c.get.new.self c.get.ensures.gone c.get.ensures.did
