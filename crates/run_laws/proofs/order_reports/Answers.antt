-- The law is proved over the definitions alone.
use Rattle.run_laws.proofs.Reports.{order_reports}
use Rattle.run_laws.proofs.order_reports.Goals as goal

pub returns : goal.returns
returns c = order_reports
