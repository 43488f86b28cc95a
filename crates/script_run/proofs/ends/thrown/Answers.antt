use Rattle.value_cells.specs.Seen.{val_in}
use Rattle.script_run.specs.declared.End.TheVariants as end
use Rattle.script_run.proofs.Finishing.{threw_is}
use Rattle.script_run.proofs.ends.thrown.Goals as goal

pub returns-in-Ok-clause-ended : goal.returns-in-Ok-clause-ended
returns-in-Ok-clause-ended c = λ nu fits E u made w e g h is.
    threw_is (val_in nu c.args.value.now) c.args.absent c.unless_absent.result (end.Waiting c.args.waits) c.in-Ok.text (c.in-Ok.ensures.told nu fits) is g h (λ r w e f. (e, f)) c.unless_absent.ensures.waits c.unless_absent.ensures.ends
