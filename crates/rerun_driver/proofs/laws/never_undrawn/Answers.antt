use Rattle.rerun_driver.proofs.Halts.{never_undrawn}
use Rattle.rerun_driver.proofs.laws.never_undrawn.Goals as goal

pub returns : goal.returns
returns c = never_undrawn
