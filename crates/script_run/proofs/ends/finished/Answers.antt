use Rattle.script_run.specs.declared.End.TheVariants as end
use Rattle.script_run.proofs.Finishing.{finished_is}
use Rattle.script_run.proofs.ends.finished.Goals as goal

pub returns : goal.returns
returns c = λ nu o E u made σ w e g h is. finished_is nu o c.args.absent c.unless_absent.result (end.Waiting c.args.waits) is g h (λ r w e f. (e, f)) c.unless_absent.ensures.waits c.unless_absent.ensures.ends
