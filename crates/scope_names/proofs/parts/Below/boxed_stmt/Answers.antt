use Rattle.scope_names.specs.Kinds.{stmt_kind}
use Rattle.scope_names.proofs.TurnedParts.{renamed}
use Rattle.scope_names.proofs.parts.Below.boxed_stmt.Goals as goal

pub returns : goal.returns
returns g c = renamed (stmt_kind c.args.self.now.left) c.in_ok-new.ensures c.in_ok-made.ensures
