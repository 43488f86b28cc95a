use Rattle.std.proofs.Common.{refl, Some, None}
use Rattle.js_tree.specs.declared.ExprNode.TheVariants as e
use Rattle.js_tree.specs.Trees.{expr_of}
use Rattle.scope_names.proofs.FrameParts.{function_made}
use Rattle.scope_names.proofs.parts.Below.plain_function.Goals as goal

pub returns : goal.returns
returns g c = function_made c.args.self.now.left (expr_of (e.Function None c.args.parameters.now c.args.body.now)) refl c.in_ok-copies.ensures c.in_ok-body.ensures
