use Rattle.call_steps.proofs.Frames.{copied_needs, needs_at}
use Rattle.call_steps.proofs.names.argument_at.Goals as goal

pub returns-then-i-arguments-clause-needs : goal.returns-then-i-arguments-clause-needs
returns-then-i-arguments-clause-needs c = copied_needs c.copy.result c.index-arguments-i.result _ c.copy.ensures (needs_at c.args.arguments.now c.args.i c.index-arguments-i.result c.if-i-arguments.true c.index-arguments-i.is)
