use Rattle.js_tree.specs.Calls.{head_value}
use Rattle.run_host.proofs.Exits.{takes_exit}
use Rattle.run_host.proofs.Fits.{leads_eq, leaves_lost, takes_as}
use Rattle.std.proofs.Common.{ap, drop, ◌∙◌}
use Rattle.std.specs.Prelude.{if◌then◌else◌, map}
use Rattle.turk_base.specs.Prog.{Ask, Declare, ask}
use Rattle.value_cells.specs.Seen.{val_in}
use Rattle.call_steps.proofs.names.add_parameter.Goals as goal

pub returns-then-is_among-clause-did : goal.returns-then-is_among-clause-did
returns-then-is_among-clause-did g c = leads_eq (λ nu go. ap (λ b. if b then go tt else Ask (Declare (nu c.args.frame) c.args.name.now (head_value (map (val_in nu) (drop c.args.i c.args.arguments.now)))) (λ _. go tt)) (c.is_among.ensures ∙ c.if-is_among.true))

pub returns-in_err-value-clause-did : goal.returns-in_err-value-clause-did
returns-in_err-value-clause-did g c = takes_exit _ _ c.from_residual.ensures.1 leaves_lost

pub returns-clause-did : goal.returns-clause-did
returns-clause-did g c = takes_as _ (λ nu u. u) c.declare.result (leads_eq (λ nu go. ap (λ b. if b then go tt else Ask (Declare (nu c.args.frame) c.args.name.now (head_value (map (val_in nu) (drop c.args.i c.args.arguments.now)))) (λ _. go tt)) (c.is_among.ensures ∙ c.if-is_among.false) ∙ ap (λ v. ask (Declare (nu c.args.frame) c.args.name.now v) (λ _. go tt)) (c.in_ok-value.ensures.value nu))) c.declare.ensures.did
