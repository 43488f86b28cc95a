use Rattle.turk_base.specs.Errors.{index_text}
use Rattle.builtin_calls.proofs.Moves.{put_takes}
use Rattle.builtin_calls.proofs.steps.put_at.Goals as goal

pub returns-clause-did : goal.returns-clause-did
returns-clause-did g c = put_takes _ (index_text c.args.index) c.put.result c.in_ok-key.ensures c.put.ensures.did
