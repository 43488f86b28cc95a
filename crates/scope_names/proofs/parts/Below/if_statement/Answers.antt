use Rattle.std.proofs.Common.{refl}
use Rattle.js_tree.specs.declared.StmtNode.TheVariants as s
use Rattle.js_tree.specs.Trees.{stmt_of}
use Rattle.scope_names.proofs.StmtParts.{if_made}
use Rattle.scope_names.proofs.parts.Below.if_statement.Goals as goal

pub returns-in-Ok : goal.returns-in-Ok
returns-in-Ok g c = if_made c.args.self.now.left (stmt_of (s.If c.args.test.now c.args.then.now c.args.otherwise.now)) refl c.in_ok-test.ensures c.in-Ok.ensures.former c.in-Ok.ensures.latter
