use Rattle.run_host.proofs.Sequence.{ends_with}
use Rattle.tree_rows.proofs.below.Below.stepped.Goals as goal

pub returns-in-Some-clause-ran : goal.returns-in-Some-clause-ran
returns-in-Some-clause-ran g c = rw c.in-Some.is c.expression.ensures.ran

pub returns-in-None-clause-ran : goal.returns-in-None-clause-ran
returns-in-None-clause-ran g c = rw c.in-None.is ends_with
