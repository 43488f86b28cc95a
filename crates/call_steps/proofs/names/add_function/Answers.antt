use Rattle.js_tree.specs.Calls.{add_name}
use Rattle.js_tree.specs.Pieces.{make_function}
use Rattle.js_tree.specs.Trees.{declared_name, number_of}
use Rattle.run_host.proofs.Exits.{takes_exit}
use Rattle.run_host.proofs.Fits.{leads_eq, takes_as}
use Rattle.run_host.proofs.Sequence.{gives_on, leads_out, leads_then, leaves_on}
use Rattle.std.proofs.Common.{ap, sym, ◌∙◌}
use Rattle.turk_base.specs.Prog.{Declare, WriteName, ask}
use Rattle.turk_base.specs.Values.{Object}
use Rattle.call_steps.proofs.names.add_function.Goals as goal

pub returns-in_err-cell-clause-did : goal.returns-in_err-cell-clause-did
returns-in_err-cell-clause-did g c = takes_exit _ _ c.from_residual.ensures.1 (leads_out (leads_eq (λ nu go. ap (λ b. make_function (number_of b) (nu c.args.frame) (λ i. add_name c.args.known (nu c.args.frame) (declared_name c.args.function.now) (Object i) go)) (sym c.body.ensures))) (leaves_on c.in_err-cell.ensures.did (λ nu i. add_name c.args.known (nu c.args.frame) (declared_name c.args.function.now) (Object i))))

pub returns-then-known-clause-did : goal.returns-then-known-clause-did
returns-then-known-clause-did g c = takes_as _ (λ nu u. u) c.write_name.result (leads_then (leads_eq (λ nu go. ap (λ b. make_function (number_of b) (nu c.args.frame) (λ i. add_name c.args.known (nu c.args.frame) (declared_name c.args.function.now) (Object i) go)) (sym c.body.ensures))) (leads_then (gives_on c.in_ok-cell.ensures.did (λ nu i. add_name c.args.known (nu c.args.frame) (declared_name c.args.function.now) (Object i))) (leads_eq (λ nu go. ap (λ b. add_name b (nu c.args.frame) (declared_name c.args.function.now) (Object (nu c.in_ok-cell.cell)) go) c.if-known.true ∙ ap (λ x. ask (WriteName (nu c.args.frame) x (Object (nu c.in_ok-cell.cell))) go) (sym c.name.ensures))))) c.write_name.ensures.did

pub returns-else-known-clause-did : goal.returns-else-known-clause-did
returns-else-known-clause-did g c = takes_as _ (λ nu u. u) c.declare.result (leads_then (leads_eq (λ nu go. ap (λ b. make_function (number_of b) (nu c.args.frame) (λ i. add_name c.args.known (nu c.args.frame) (declared_name c.args.function.now) (Object i) go)) (sym c.body.ensures))) (leads_then (gives_on c.in_ok-cell.ensures.did (λ nu i. add_name c.args.known (nu c.args.frame) (declared_name c.args.function.now) (Object i))) (leads_eq (λ nu go. ap (λ b. add_name b (nu c.args.frame) (declared_name c.args.function.now) (Object (nu c.in_ok-cell.cell)) go) c.if-known.false ∙ ap (λ x. ask (Declare (nu c.args.frame) x (Object (nu c.in_ok-cell.cell))) go) (sym c.name-else-known.ensures))))) c.declare.ensures.did
