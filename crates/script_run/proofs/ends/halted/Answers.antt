use Rattle.script_run.specs.declared.End.TheVariants as end
use Rattle.script_run.proofs.Finishing.{goes_refused, refused_is, waits_is, spent_is, diverges_stop}
use Rattle.script_run.proofs.ends.halted.Goals as goal

pub returns-in-Refused-clause-ended : goal.returns-in-Refused-clause-ended
returns-in-Refused-clause-ended c = λ σ w made e g h a.
    refused_is c.args.absent c.unless_absent.result (end.Waiting c.args.waits) c.in-Refused.is a (g (goes_refused c.in-Refused.is)) h (λ r w e f. (e, f)) c.unless_absent.ensures.waits c.unless_absent.ensures.ends

pub returns-in-Waits-clause-ended : goal.returns-in-Waits-clause-ended
returns-in-Waits-clause-ended c = λ σ w made e g h a. waits_is (end.Waiting c.args.waits) c.in-Waits.is a h (λ r w e f. (e, f))

pub returns-in-Spent-clause-ended : goal.returns-in-Spent-clause-ended
returns-in-Spent-clause-ended c = λ σ w made e g h a. spent_is c.in-Spent.is a

pub returns-in-Diverges-clause-stopped : goal.returns-in-Diverges-clause-stopped
returns-in-Diverges-clause-stopped c = λ E u σ w made e h. diverges_stop c.in-Diverges.is h
