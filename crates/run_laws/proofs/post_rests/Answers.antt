-- The law is proved over the definitions alone.
use Rattle.run_laws.proofs.Mirror.{post_rests}
use Rattle.run_laws.proofs.post_rests.Goals as goal

pub returns : goal.returns
returns c = post_rests
