use Rattle.target_rows.proofs.assignment.Goals as goal

pub returns-in-Some-clause-ran : goal.returns-in-Some-clause-ran
returns-in-Some-clause-ran g c = rw c.in-Some.is c.assign_with.ensures.ran

pub returns-in-None-clause-ran : goal.returns-in-None-clause-ran
returns-in-None-clause-ran g c = rw c.in-None.is c.assign.ensures.ran
