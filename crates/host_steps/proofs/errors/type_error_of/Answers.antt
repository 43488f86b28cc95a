use Rattle.std.proofs.Common.{ap, sym}
use Rattle.turk_base.specs.Errors.{type_error}
use Rattle.run_host.specs.Told.{told_exit}
use Rattle.host_steps.proofs.Made.{onward_eq, exit_lost}
use Rattle.host_steps.proofs.errors.type_error_of.Goals as goal

pub returns-in-Ok-clause-did : goal.returns-in-Ok-clause-did
returns-in-Ok-clause-did g c = (onward_eq (λ nu. ap type_error (sym c.in-Ok.ensures))).goes (λ nu. told_exit nu c.thrown_type_error.result) (g.H.Host.moment c.thrown_type_error.new.host) c.thrown_type_error.ensures.did

pub returns-in-Err-clause-did : goal.returns-in-Err-clause-did
returns-in-Err-clause-did g c = exit_lost c.from.result c.from.ensures
