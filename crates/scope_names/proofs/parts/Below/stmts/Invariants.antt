use Rattle.std.proofs.Common.{take}
use Rattle.scope_names.specs.Walks.{Resolves, list_kind}
use Rattle.scope_names.specs.Kinds.{stmt_kind}
use Rattle.scope_names.proofs.parts.Below.stmts.Given as goal

abbrev pub invariant-loop-item : goal.invariant-loop-item
invariant-loop-item g l = Resolves (list_kind (stmt_kind l.self.left)) l.fn.walk (take l.item-index l.given) l.made l.walk
