use Rattle.meaning_laws.proofs.Parts.{once_takes_back, fork_takes_back}
use Rattle.meaning_laws.proofs.takes_back.Goals as goal

pub returns : goal.returns
returns c = record { once = once_takes_back; fork = fork_takes_back }
