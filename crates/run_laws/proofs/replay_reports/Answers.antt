-- The law is proved over the definitions alone.
use Rattle.run_laws.proofs.Reports.{replay_reports}
use Rattle.run_laws.proofs.replay_reports.Goals as goal

pub returns : goal.returns
returns c = replay_reports
