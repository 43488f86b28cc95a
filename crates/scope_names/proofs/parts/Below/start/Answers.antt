use Rattle.std.proofs.Common.{◌∙◌, ap, sym}
use Rattle.js_tree.specs.declared.ForStart.TheVariants as start
use Rattle.scope_names.proofs.OtherParts.{no_start_made, value_start_made, var_start_made}
use Rattle.scope_names.proofs.parts.Below.start.Goals as goal

pub returns-in-NoStart : goal.returns-in-NoStart
returns-in-NoStart g c = no_start_made c.args.self.now.left c.args.given.now c.in-NoStart.is

pub returns-in_ok-made-in-ValueStart : goal.returns-in_ok-made-in-ValueStart
returns-in_ok-made-in-ValueStart g c = value_start_made c.args.self.now.left c.args.given.now c.in-ValueStart.is c.in_ok-made-in-ValueStart.ensures

pub returns-in_ok-made-in-VarStart : goal.returns-in_ok-made-in-VarStart
returns-in_ok-made-in-VarStart g c = var_start_made c.args.self.now.left c.args.given.now (c.in-VarStart.is ∙ ap start.VarStart (sym c.get.ensures)) c.in_ok-made-in-VarStart.ensures
