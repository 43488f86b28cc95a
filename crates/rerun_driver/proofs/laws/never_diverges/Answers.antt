use Rattle.rerun_driver.proofs.Halts.{never_diverges}
use Rattle.rerun_driver.proofs.laws.never_diverges.Goals as goal

pub returns : goal.returns
returns c = never_diverges
