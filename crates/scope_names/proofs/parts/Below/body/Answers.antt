use Rattle.std.proofs.Common.{refl}
use Rattle.scope_names.proofs.FrameParts.{body_made}
use Rattle.scope_names.proofs.TurnedParts.{given_turned, frame_same}
use Rattle.scope_names.specs.Walks.{list_kind}
use Rattle.scope_names.specs.Kinds.{stmt_kind, declaration_kind}
use Rattle.scope_names.proofs.parts.Below.body.Goals as goal

pub returns : goal.returns
returns g c = body_made c.args.self.now.left c.args.parameters.now c.args.given.now c.in_ok-number.ensures c.in_ok-walk.ensures (frame_same c.args.parameters.now c.args.given.now c.in_ok-names.ensures refl)
    (given_turned (list_kind (declaration_kind c.args.self.now.left)) c.functions.ensures c.in_ok-functions.ensures) (given_turned (list_kind (stmt_kind c.args.self.now.left)) c.statements.ensures c.in_ok-statements.ensures) c.leave.ensures
