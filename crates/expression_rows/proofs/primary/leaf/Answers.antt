use Rattle.std.proofs.Common.{refl, arith}
use Rattle.script_grammar.proofs.Along.{row, gives, rises, sinks}
use Rattle.expression_rows.proofs.primary.leaf.Goals as goal

pub returns-then-base-eq-LIMIT-clause-leaf : goal.returns-then-base-eq-LIMIT-clause-leaf
returns-then-base-eq-LIMIT-clause-leaf c t live _ = row (sinks live refl (omega arith))

pub returns-clause-leaf : goal.returns-clause-leaf
returns-clause-leaf c t live = row (rises live refl (omega arith) (gives refl (omega arith)))
