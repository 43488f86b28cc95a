use Rattle.std.proofs.Common.{refl}
use Rattle.js_tree.specs.declared.StmtNode.TheVariants as s
use Rattle.js_tree.specs.Trees.{stmt_of}
use Rattle.scope_names.proofs.StmtParts.{var_made}
use Rattle.scope_names.proofs.parts.Below.var_statement.Goals as goal

pub returns : goal.returns
returns g c = var_made c.args.self.now.left (stmt_of (s.Var c.args.list.now)) refl c.in_ok-list.ensures
