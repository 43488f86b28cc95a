-- The law is proved over the definitions alone.
use Rattle.run_laws.proofs.Replay.{replay_law}
use Rattle.run_laws.proofs.replay_law.Goals as goal

pub returns : goal.returns
returns c = replay_law
