use Rattle.scope_names.proofs.FrameParts.{catch_made}
use Rattle.scope_names.proofs.TurnedParts.{given_turned, entered}
use Rattle.scope_names.specs.Kinds.{stmt_kind}
use Rattle.scope_names.proofs.parts.Below.caught.Goals as goal

pub returns : goal.returns
returns g c = catch_made c.args.self.now.left c.args.given.now c.in_ok-name.ensures (entered c.in_ok-name.ensures c.in_ok-walk.ensures) (given_turned (stmt_kind c.args.self.now.left) c.get.ensures c.in_ok-body.ensures) c.leave.ensures
