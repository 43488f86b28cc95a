use Rattle.std.proofs.Common.{refl}
use Rattle.js_tree.specs.declared.ExprNode.TheVariants as e
use Rattle.js_tree.specs.Trees.{expr_of}
use Rattle.scope_names.proofs.ExprParts.{object_made}
use Rattle.scope_names.proofs.parts.Below.object.Goals as goal

pub returns : goal.returns
returns g c = object_made c.args.self.now.left (expr_of (e.Object c.args.fields.now)) refl c.in_ok-fields.ensures
