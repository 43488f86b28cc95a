use Rattle.std.proofs.Common.{refl}
use Rattle.js_tree.specs.declared.StmtNode.TheVariants as s
use Rattle.js_tree.specs.Trees.{stmt_of}
use Rattle.scope_names.proofs.StmtParts.{for_made}
use Rattle.scope_names.proofs.parts.Below.for_loop.Goals as goal

pub returns-in-Ok : goal.returns-in-Ok
returns-in-Ok g c = for_made c.args.self.now.left (stmt_of (s.For c.args.start.now c.args.test.now c.args.step.now c.args.body.now)) refl c.in_ok-start.ensures c.in-Ok.ensures.former c.in-Ok.ensures.rest.former c.in-Ok.ensures.rest.latter
