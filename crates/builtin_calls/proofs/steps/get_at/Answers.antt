use Rattle.turk_base.specs.Errors.{index_text}
use Rattle.builtin_calls.proofs.Moves.{get_takes}
use Rattle.builtin_calls.proofs.steps.get_at.Goals as goal

pub returns-clause-did : goal.returns-clause-did
returns-clause-did g c = get_takes _ (index_text c.args.index) c.get.result c.in_ok-key.ensures c.get.ensures.did
