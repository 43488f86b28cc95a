use Rattle.scope_names.specs.Kinds.{expr_kind}
use Rattle.scope_names.proofs.TurnedParts.{renamed}
use Rattle.scope_names.proofs.parts.Below.boxed.Goals as goal

pub returns : goal.returns
returns g c = renamed (expr_kind c.args.self.now.left) c.in_ok-new.ensures c.in_ok-made.ensures
