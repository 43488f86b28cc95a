use Rattle.std.proofs.Common.{refl}
use Rattle.js_tree.specs.declared.StmtNode.TheVariants as s
use Rattle.js_tree.specs.Trees.{stmt_of}
use Rattle.scope_names.proofs.StmtParts.{try_made}
use Rattle.scope_names.proofs.parts.Below.try_statement.Goals as goal

pub returns : goal.returns
returns g c = try_made c.args.self.now.left (stmt_of (s.Try c.args.body.now c.args.caught.now c.args.last.now)) refl c.in_ok-body.ensures c.in_ok-caught.ensures c.in_ok-last.ensures
