use Rattle.std.proofs.Common.{◌∙◌, ap}
use Rattle.scope_names.specs.Gathered.{with_name}
use Rattle.scope_names.proofs.NameLemmas.{gathered_next}
use Rattle.scope_names.proofs.names.Names.add_all.Goals as goal

pub loop-name-preserved : goal.loop-name-preserved
loop-name-preserved c =
    c.in_ok-all.ensures ∙ ap (λ a. with_name a c.name-item.result) c.loop-name.invariant ∙ gathered_next _ _ _ _ c.loop-name-test.true c.name-item.is
