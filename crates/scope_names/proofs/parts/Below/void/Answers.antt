use Rattle.std.proofs.Common.{refl}
use Rattle.js_tree.specs.declared.ExprNode.TheVariants as e
use Rattle.js_tree.specs.Trees.{expr_of}
use Rattle.scope_names.proofs.ExprParts.{void_made}
use Rattle.scope_names.proofs.parts.Below.void.Goals as goal

pub returns : goal.returns
returns g c = void_made c.args.self.now.left (expr_of (e.Void c.args.a.now)) refl c.in_ok-a.ensures
