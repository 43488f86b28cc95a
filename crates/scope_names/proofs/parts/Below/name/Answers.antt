use Rattle.std.proofs.Common.{refl}
use Rattle.js_tree.specs.declared.ExprNode.TheVariants as e
use Rattle.js_tree.specs.Trees.{expr_of}
use Rattle.scope_names.proofs.OtherParts.{name_made}
use Rattle.scope_names.proofs.parts.Below.name.Goals as goal

pub returns : goal.returns
returns g c = name_made c.args.self.now.left (expr_of (e.Name c.args.named.now)) refl c.in_ok-named.ensures
