use Rattle.machine_host.proofs.Answered.{guarded_does}
use Rattle.machine_host.proofs.guarded.GuardedHeap.remove.Goals as goal

pub returns-clause-did : goal.returns-clause-did
returns-clause-did c = guarded_does c.args.self.now.machine c.remove.new.self c.remove.ensures.gone c.remove.ensures.did
