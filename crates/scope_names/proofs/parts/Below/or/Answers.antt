use Rattle.std.proofs.Common.{refl}
use Rattle.js_tree.specs.declared.ExprNode.TheVariants as e
use Rattle.js_tree.specs.Trees.{expr_of}
use Rattle.scope_names.proofs.ExprParts.{or_made}
use Rattle.scope_names.proofs.parts.Below.or.Goals as goal

pub returns : goal.returns
returns g c = or_made c.args.self.now.left (expr_of (e.Or c.args.a.now c.args.b.now)) refl c.in_ok-a.ensures c.in_ok-b.ensures
