use Rattle.std.proofs.Common.{refl}
use Rattle.js_tree.specs.declared.ExprNode.TheVariants as e
use Rattle.js_tree.specs.Trees.{expr_of}
use Rattle.scope_names.proofs.ExprParts.{new_made}
use Rattle.scope_names.proofs.parts.Below.construct.Goals as goal

pub returns : goal.returns
returns g c = new_made c.args.self.now.left (expr_of (e.New c.args.a.now c.args.list.now)) refl c.in_ok-a.ensures c.in_ok-list.ensures
