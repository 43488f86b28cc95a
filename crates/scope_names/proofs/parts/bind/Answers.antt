use Rattle.std.proofs.Common.{subst, sym}
use Rattle.js_tree.specs.Binds.{BindsTo}
use Rattle.scope_names.proofs.parts.bind.Goals as goal

pub returns : goal.returns
returns c = record {
  same = c.in_ok-name.ensures;
  bound = subst (λ n. BindsTo c.args.walk.now.scopes n c.find-binding.result.1 c.find-binding.result.0) (sym c.in_ok-name.ensures) c.find-binding.ensures;
}
