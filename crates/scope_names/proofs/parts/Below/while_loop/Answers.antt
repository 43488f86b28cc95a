use Rattle.std.proofs.Common.{refl}
use Rattle.js_tree.specs.declared.StmtNode.TheVariants as s
use Rattle.js_tree.specs.Trees.{stmt_of}
use Rattle.scope_names.proofs.StmtParts.{while_made}
use Rattle.scope_names.proofs.parts.Below.while_loop.Goals as goal

pub returns-in-Ok : goal.returns-in-Ok
returns-in-Ok g c = while_made c.args.self.now.left (stmt_of (s.While c.args.test.now c.args.body.now)) refl c.in_ok-test.ensures c.in-Ok.ensures
