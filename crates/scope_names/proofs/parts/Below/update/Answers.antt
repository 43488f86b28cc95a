use Rattle.std.proofs.Common.{refl}
use Rattle.js_tree.specs.declared.ExprNode.TheVariants as e
use Rattle.js_tree.specs.Trees.{expr_of}
use Rattle.scope_names.proofs.ExprParts.{update_made}
use Rattle.scope_names.proofs.parts.Below.update.Goals as goal

pub returns : goal.returns
returns g c = update_made c.args.self.now.left (expr_of (e.Update c.args.a.now c.args.sign c.args.fix)) refl c.in_ok-a.ensures
