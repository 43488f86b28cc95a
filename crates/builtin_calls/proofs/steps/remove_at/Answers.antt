use Rattle.turk_base.specs.Errors.{index_text}
use Rattle.builtin_calls.proofs.Moves.{remove_takes}
use Rattle.builtin_calls.proofs.steps.remove_at.Goals as goal

pub returns-clause-did : goal.returns-clause-did
returns-clause-did g c = remove_takes _ (index_text c.args.index) c.remove.result c.in_ok-key.ensures c.remove.ensures.did
