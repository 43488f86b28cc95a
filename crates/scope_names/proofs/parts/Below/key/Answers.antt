use Rattle.std.proofs.Common.{◌∙◌, ap, sym}
use Rattle.js_tree.specs.declared.Key.TheVariants as key
use Rattle.scope_names.proofs.OtherParts.{fixed_made, computed_made}
use Rattle.scope_names.proofs.parts.Below.key.Goals as goal

pub returns-in_ok-copy-in-Fixed : goal.returns-in_ok-copy-in-Fixed
returns-in_ok-copy-in-Fixed g c = fixed_made c.args.self.now.left c.args.given.now c.in-Fixed.is c.in_ok-copy-in-Fixed.ensures

pub returns-in_ok-made-in-Computed : goal.returns-in_ok-made-in-Computed
returns-in_ok-made-in-Computed g c = computed_made c.args.self.now.left c.args.given.now (c.in-Computed.is ∙ ap key.Computed (sym c.get.ensures)) c.in_ok-made-in-Computed.ensures
