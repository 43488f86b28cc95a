use Rattle.meaning_laws.proofs.Parts.{paths_both_ways}
use Rattle.meaning_laws.proofs.paths_both_ways.Goals as goal

pub returns : goal.returns
returns c = paths_both_ways
