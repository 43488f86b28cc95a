use Rattle.std.proofs.Common.{◌∙◌, ap}
use Rattle.js_tree.specs.declared.Variable.{out-Variable, Variable}
use Rattle.scope_names.specs.Gathered.{with_name}
use Rattle.scope_names.proofs.HoistLemmas.{map_next}
use Rattle.scope_names.proofs.hoist.named.Goals as goal

pub loop-variable-preserved : goal.loop-variable-preserved
loop-variable-preserved c =
    c.in_ok-all.ensures ∙ ap (λ l. with_name l (out-Variable c.variable-item.result).named.name) c.loop-variable.invariant
    ∙ map_next (λ (x : Variable). (out-Variable x).named.name) _ _ _ _ c.loop-variable-test.true c.variable-item.is
