use Rattle.std.proofs.Common.{refl}
use Rattle.js_tree.specs.declared.StmtNode.TheVariants as s
use Rattle.js_tree.specs.Trees.{stmt_of}
use Rattle.scope_names.proofs.StmtParts.{for_in_made}
use Rattle.scope_names.proofs.parts.Below.for_in.Goals as goal

pub returns-in-Ok : goal.returns-in-Ok
returns-in-Ok g c = for_in_made c.args.self.now.left (stmt_of (s.ForIn c.args.target.now c.args.object.now c.args.body.now)) refl c.in_ok-target.ensures c.in-Ok.ensures.former c.in-Ok.ensures.latter
