use Rattle.std.proofs.Common.{refl}
use Rattle.js_tree.specs.declared.StmtNode.TheVariants as s
use Rattle.js_tree.specs.Trees.{stmt_of}
use Rattle.scope_names.proofs.StmtParts.{block_made}
use Rattle.scope_names.proofs.parts.Below.block.Goals as goal

pub returns : goal.returns
returns g c = block_made c.args.self.now.left (stmt_of (s.Block c.args.list.now)) refl c.in_ok-list.ensures
