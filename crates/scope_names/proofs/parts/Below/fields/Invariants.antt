use Rattle.std.proofs.Common.{take}
use Rattle.scope_names.specs.Walks.{Resolves, list_kind}
use Rattle.scope_names.specs.Kinds.{field_kind}
use Rattle.scope_names.proofs.parts.Below.fields.Given as goal

abbrev pub invariant-loop-item : goal.invariant-loop-item
invariant-loop-item g l = Resolves (list_kind (field_kind l.self.left)) l.fn.walk (take l.item-index l.given) l.made l.walk
