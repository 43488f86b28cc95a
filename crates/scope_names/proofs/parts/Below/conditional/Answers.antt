use Rattle.std.proofs.Common.{refl}
use Rattle.js_tree.specs.declared.ExprNode.TheVariants as e
use Rattle.js_tree.specs.Trees.{expr_of}
use Rattle.scope_names.proofs.ExprParts.{conditional_made}
use Rattle.scope_names.proofs.parts.Below.conditional.Goals as goal

pub returns : goal.returns
returns g c = conditional_made c.args.self.now.left (expr_of (e.Conditional c.args.a.now c.args.b.now c.args.c.now)) refl c.in_ok-a.ensures c.in_ok-b.ensures c.in_ok-c.ensures
