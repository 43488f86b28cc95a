use Rattle.std.proofs.Common.{refl}
use Rattle.js_tree.specs.declared.ExprNode.TheVariants as e
use Rattle.js_tree.specs.Trees.{expr_of}
use Rattle.scope_names.proofs.ExprParts.{fork_made}
use Rattle.scope_names.proofs.parts.Below.fork.Goals as goal

pub returns : goal.returns
returns g c = fork_made c.args.self.now.left (expr_of (e.Fork c.args.a.now)) refl c.in_ok-a.ensures
