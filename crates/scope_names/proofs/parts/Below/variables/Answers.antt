use Rattle.scope_names.specs.Kinds.{variable_kind}
use Rattle.scope_names.specs.Walks.{Resolves, list_kind}
use Rattle.scope_names.proofs.WalkParts.{list_none, list_step, list_end}
use Rattle.scope_names.proofs.TurnedParts.{renamed}
use Rattle.scope_names.proofs.parts.Below.variables.Goals as goal

pub loop-item-init : goal.loop-item-init
loop-item-init g c = renamed (list_kind (variable_kind c.args.self.now.left)) c.new-made.ensures (list_none (variable_kind c.args.self.now.left) c.args.walk)

pub loop-item-preserved : goal.loop-item-preserved
loop-item-preserved g c = list_step (variable_kind c.args.self.now.left) c.args.given.now c.loop-item.item-index c.loop-item-test.true c.item-item.is c.in_ok-push.ensures.ok c.loop-item.invariant c.in_ok-one.ensures

pub returns : goal.returns
returns g c = list_end (variable_kind c.args.self.now.left) c.args.given.now c.loop-item.item-index c.loop-item-test.false c.loop-item.invariant
