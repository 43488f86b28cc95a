use Rattle.std.proofs.Common.{◌∙◌}
use Rattle.scope_names.proofs.NameLemmas.{inserted}
use Rattle.scope_names.proofs.names.Names.add.Goals as goal

pub returns : goal.returns
returns c = c.in_ok-insert.ensures.keys ∙ inserted _ _ _ _ c.self.view_is c.in_ok-copy.ensures
