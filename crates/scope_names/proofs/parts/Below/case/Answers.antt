use Rattle.std.proofs.Common.{subst}
use Rattle.scope_names.proofs.OtherParts.{case_made}
use Rattle.scope_names.proofs.TurnedParts.{given_turned}
use Rattle.scope_names.specs.Walks.{list_kind}
use Rattle.scope_names.specs.Kinds.{stmt_kind}
use Rattle.scope_names.proofs.parts.Below.case.Goals as goal

pub returns-in-Ok : goal.returns-in-Ok
returns-in-Ok g c = case_made c.args.self.now.left c.args.given.now c.in_ok-test.ensures (given_turned (list_kind (stmt_kind c.args.self.now.left)) c.as_slice.ensures c.in-Ok.ensures)
