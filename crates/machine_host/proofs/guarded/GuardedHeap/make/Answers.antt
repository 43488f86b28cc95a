use Rattle.machine_host.proofs.Answered.{guarded_does}
use Rattle.machine_host.proofs.guarded.GuardedHeap.make.Goals as goal

pub returns-clause-did : goal.returns-clause-did
returns-clause-did c = guarded_does c.args.self.now.machine c.make.new.self c.make.ensures.gone c.make.ensures.did
