use Rattle.std.proofs.Common.{refl}
use Rattle.js_tree.specs.declared.StmtNode.TheVariants as s
use Rattle.js_tree.specs.Trees.{stmt_of}
use Rattle.scope_names.proofs.StmtParts.{expression_made}
use Rattle.scope_names.proofs.parts.Below.expression.Goals as goal

pub returns : goal.returns
returns g c = expression_made c.args.self.now.left (stmt_of (s.Expression c.args.a.now)) refl c.in_ok-a.ensures
