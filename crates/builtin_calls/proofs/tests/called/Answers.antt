use Rattle.builtin_calls.proofs.Purse.{built_ins}
use Rattle.builtin_calls.proofs.tests.called.Goals as goal

pub call-requires-clause-built_ins : goal.call-requires-clause-built_ins
call-requires-clause-built_ins c = built_ins c.args.left
