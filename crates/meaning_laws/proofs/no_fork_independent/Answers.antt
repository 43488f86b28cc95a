use Rattle.meaning_laws.proofs.Whole.{no_fork_independent}
use Rattle.meaning_laws.proofs.no_fork_independent.Goals as goal

pub returns : goal.returns
returns c = no_fork_independent
