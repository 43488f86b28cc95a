use Rattle.std.proofs.Common.{refl}
use Rattle.js_tree.specs.declared.StmtNode.TheVariants as s
use Rattle.js_tree.specs.Trees.{stmt_of}
use Rattle.scope_names.proofs.StmtParts.{do_made}
use Rattle.scope_names.proofs.parts.Below.do_while.Goals as goal

pub returns : goal.returns
returns g c = do_made c.args.self.now.left (stmt_of (s.DoWhile c.args.body.now c.args.test.now)) refl c.in_ok-body.ensures c.in_ok-test.ensures
