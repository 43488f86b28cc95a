use Rattle.std.proofs.Common.{Some, ap, sym, ◌∙◌}
use Rattle.scope_names.specs.Kinds.{catch_kind}
use Rattle.scope_names.proofs.TurnedParts.{some_turned, none_turned}
use Rattle.scope_names.proofs.parts.Below.option_catch.Goals as goal

pub returns-in_ok-made-in-Some : goal.returns-in_ok-made-in-Some
returns-in_ok-made-in-Some g c = some_turned (catch_kind c.args.self.now.left) (c.in-Some.is) c.in_ok-made-in-Some.ensures

pub returns-in-None : goal.returns-in-None
returns-in-None g c = none_turned (catch_kind c.args.self.now.left) c.args.walk c.in-None.is
