use Rattle.std.proofs.Common.{refl}
use Rattle.js_tree.specs.declared.StmtNode.TheVariants as s
use Rattle.js_tree.specs.Trees.{stmt_of}
use Rattle.scope_names.proofs.StmtParts.{throw_made}
use Rattle.scope_names.proofs.parts.Below.throw.Goals as goal

pub returns : goal.returns
returns g c = throw_made c.args.self.now.left (stmt_of (s.Throw c.args.a.now)) refl c.in_ok-a.ensures
