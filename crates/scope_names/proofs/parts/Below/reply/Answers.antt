use Rattle.std.proofs.Common.{refl}
use Rattle.js_tree.specs.declared.ExprNode.TheVariants as e
use Rattle.js_tree.specs.Trees.{expr_of}
use Rattle.scope_names.proofs.ExprParts.{reply_made}
use Rattle.scope_names.proofs.parts.Below.reply.Goals as goal

pub returns : goal.returns
returns g c = reply_made c.args.self.now.left (expr_of (e.Reply c.args.a.now)) refl c.in_ok-a.ensures
