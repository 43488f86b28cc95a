use Rattle.scope_names.proofs.OtherParts.{target_each_made, var_each_made}
use Rattle.scope_names.proofs.parts.Below.target.Goals as goal

pub returns-in_ok-made-in-TargetEach : goal.returns-in_ok-made-in-TargetEach
returns-in_ok-made-in-TargetEach g c = target_each_made c.args.self.now.left c.args.given.now c.in-TargetEach.is c.in_ok-made-in-TargetEach.ensures

pub returns-in_ok-named-in-VarEach : goal.returns-in_ok-named-in-VarEach
returns-in_ok-named-in-VarEach g c = var_each_made c.args.self.now.left c.args.given.now c.in-VarEach.is c.in_ok-named-in-VarEach.ensures
