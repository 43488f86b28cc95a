use Rattle.run_host.proofs.Fits.{leads_eq, takes_as}
use Rattle.std.proofs.Common.{ap}
use Rattle.std.specs.Prelude.{if◌then◌else◌}
use Rattle.turk_base.specs.Prog.{Ask, Declare}
use Rattle.turk_base.specs.Values.{Undefined}
use Rattle.call_steps.proofs.names.add_variable.Goals as goal

pub returns-then-known-clause-did : goal.returns-then-known-clause-did
returns-then-known-clause-did g c = leads_eq (λ nu go. ap (λ b. if b then go tt else Ask (Declare (nu c.args.frame) c.args.name.now Undefined) (λ _. go tt)) c.if-known.true)

pub returns-else-known-clause-did : goal.returns-else-known-clause-did
returns-else-known-clause-did g c = takes_as _ (λ nu u. u) c.declare.result (leads_eq (λ nu go. ap (λ b. if b then go tt else Ask (Declare (nu c.args.frame) c.args.name.now Undefined) (λ _. go tt)) c.if-known.false)) c.declare.ensures.did
