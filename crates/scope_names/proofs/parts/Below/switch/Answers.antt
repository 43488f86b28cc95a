use Rattle.std.proofs.Common.{refl}
use Rattle.js_tree.specs.declared.StmtNode.TheVariants as s
use Rattle.js_tree.specs.Trees.{stmt_of}
use Rattle.scope_names.proofs.StmtParts.{switch_made}
use Rattle.scope_names.proofs.parts.Below.switch.Goals as goal

pub returns-in-Ok : goal.returns-in-Ok
returns-in-Ok g c = switch_made c.args.self.now.left (stmt_of (s.Switch c.args.value.now c.args.cases.now)) refl c.in_ok-value.ensures c.in-Ok.ensures
