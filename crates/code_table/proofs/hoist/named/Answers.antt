use Rattle.js_tree.specs.declared.Variable.{out-Variable, Variable}
use Rattle.code_table.proofs.Listed.{map_next}
use Rattle.code_table.proofs.hoist.named.Goals as goal

pub loop-variable-preserved : goal.loop-variable-preserved
loop-variable-preserved c =
    map_next (λ (x : Variable). (out-Variable x).named.name) _ _ _ _ _ _ c.loop-variable-test.true c.variable-item.is c.loop-variable.invariant c.in_ok-all.ensures
