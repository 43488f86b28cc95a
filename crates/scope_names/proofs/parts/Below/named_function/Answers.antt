use Rattle.std.proofs.Common.{refl, Some, None}
use Rattle.js_tree.specs.declared.ExprNode.TheVariants as e
use Rattle.js_tree.specs.Trees.{expr_of}
use Rattle.scope_names.proofs.FrameParts.{named_function_made}
use Rattle.scope_names.proofs.TurnedParts.{entered}
use Rattle.scope_names.proofs.parts.Below.named_function.Goals as goal

pub returns : goal.returns
returns g c = named_function_made c.args.self.now.left (expr_of (e.Function (Some c.args.own.now) c.args.parameters.now c.args.body.now)) refl c.in_ok-name.ensures c.in_ok-copies.ensures (entered c.in_ok-name.ensures c.in_ok-walk.ensures) c.in_ok-body.ensures c.leave-walk.ensures
