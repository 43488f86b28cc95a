use Rattle.builtin_calls.proofs.Purse.{pays, spent}
use Rattle.builtin_calls.proofs.tests.PurseHeap.pay.Goals as goal

pub returns-then-self-units-clause-did : goal.returns-then-self-units-clause-did
returns-then-self-units-clause-did c = spent c.args.self.now.left c.args.units c.if-self-units.true

pub returns-clause-did : goal.returns-clause-did
returns-clause-did c = pays c.args.self.now.left c.args.units c.if-self-units.false
