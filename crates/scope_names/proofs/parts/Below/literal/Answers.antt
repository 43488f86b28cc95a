use Rattle.std.proofs.Common.{refl}
use Rattle.js_tree.specs.declared.ExprNode.TheVariants as e
use Rattle.js_tree.specs.Trees.{expr_of}
use Rattle.scope_names.proofs.ExprParts.{literal_made}
use Rattle.scope_names.proofs.parts.Below.literal.Goals as goal

pub returns : goal.returns
returns g c = literal_made c.args.self.now.left (expr_of (e.Literal c.args.literal.now)) refl c.in_ok-literal.ensures
