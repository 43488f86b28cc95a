use Rattle.builtin_calls.proofs.Moves.{length_takes}
use Rattle.builtin_calls.proofs.steps.set_length.Goals as goal

pub returns-clause-did : goal.returns-clause-did
returns-clause-did g c = length_takes c.args.length c.put.result c.in_ok-key.ensures c.whole.ensures c.put.ensures.did
