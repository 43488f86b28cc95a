use Rattle.std.proofs.Common.{◌∙◌, ap}
use Rattle.js_tree.specs.Trees.{declared_name}
use Rattle.scope_names.specs.Gathered.{with_name}
use Rattle.scope_names.proofs.HoistLemmas.{map_next}
use Rattle.scope_names.proofs.hoist.functions.Goals as goal

pub loop-declaration-preserved : goal.loop-declaration-preserved
loop-declaration-preserved c =
    c.in_ok-all.ensures ∙ (λ i. with_name (c.loop-declaration.invariant i) (c.name.ensures i)) ∙ map_next declared_name _ _ _ _ c.loop-declaration-test.true c.declaration-item.is
