use Rattle.eval_ops.specs.Run.{seen_of}
use Rattle.machine_host.proofs.Answered.{declared_set}
use Rattle.machine_host.proofs.requests.set_name.Goals as goal

pub returns-else-has-clause-did : goal.returns-else-has-clause-did
returns-else-has-clause-did c = declared_set (λ nu. nu c.args.frame) c.args.name.now c.args.value c.declare.result (seen_of c.args.machine.now) (seen_of c.declare.new.self) c.declare.ensures.did
