use Rattle.turkit_top.specs.Answers.{told, refused}
use Rattle.turkit_top.proofs.report.of_run.Goals as goal

pub returns-in-Ok : goal.returns-in-Ok
returns-in-Ok g c = told c.in-Ok.report c.in-Ok.ensures c.of_report.ensures

pub returns-in-Err : goal.returns-in-Err
returns-in-Err g c = refused c.in-Err.stop c.in-Err.ensures c.of_stop.ensures
