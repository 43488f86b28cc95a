use Rattle.std.proofs.Common.{refl}
use Rattle.js_tree.specs.declared.ExprNode.TheVariants as e
use Rattle.js_tree.specs.Trees.{expr_of}
use Rattle.scope_names.proofs.ExprParts.{post_made}
use Rattle.scope_names.proofs.parts.Below.post.Goals as goal

pub returns : goal.returns
returns g c = post_made c.args.self.now.left (expr_of (e.Post c.args.a.now)) refl c.in_ok-a.ensures
