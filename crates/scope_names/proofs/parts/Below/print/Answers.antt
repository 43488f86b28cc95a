use Rattle.std.proofs.Common.{refl}
use Rattle.js_tree.specs.declared.ExprNode.TheVariants as e
use Rattle.js_tree.specs.Trees.{expr_of}
use Rattle.scope_names.proofs.ExprParts.{print_made}
use Rattle.scope_names.proofs.parts.Below.print.Goals as goal

pub returns : goal.returns
returns g c = print_made c.args.self.now.left (expr_of (e.Print c.args.list.now)) refl c.in_ok-list.ensures
