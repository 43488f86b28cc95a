use Rattle.std.proofs.Common.{ap, ◌∙◌}
use Rattle.js_tree.specs.Calls.{has}
use Rattle.scope_names.proofs.NameLemmas.{any_has}
use Rattle.scope_names.proofs.names.Names.has.Goals as goal

pub returns : goal.returns
returns c = c.contains.ensures ∙ any_has _ c.args.name.now ∙ ap (λ ks. has ks c.args.name.now) c.self.view_is
