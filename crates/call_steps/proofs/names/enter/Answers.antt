use Rattle.call_steps.specs.Frames.{after}
use Rattle.js_tree.specs.Calls.{add_functions, add_variables, variables}
use Rattle.js_tree.specs.Trees.{functions_of, statements_of}
use Rattle.run_host.proofs.Exits.{takes_exit}
use Rattle.run_host.proofs.Fits.{leads_eq, takes_as}
use Rattle.run_host.proofs.Sequence.{gives_on, leads_out, leads_then, leaves_on}
use Rattle.std.proofs.Common.{ap, sym}
use Rattle.call_steps.proofs.names.enter.Goals as goal

pub returns-in_err-add_functions-clause-did : goal.returns-in_err-add_functions-clause-did
returns-in_err-add_functions-clause-did g c = let fs = functions_of c.args.body.now in let ps = c.args.parameters.now in takes_exit _ _ c.from_residual.ensures.1 (leads_out (leads_eq (λ nu go. ap (λ fs. add_functions (nu c.args.frame) ps fs (λ ns. add_variables (nu c.args.frame) ns (variables (statements_of c.args.body.now)) go)) (sym c.functions-functions.ensures))) (leaves_on c.in_err-add_functions.ensures.did (λ nu ns go. add_variables (nu c.args.frame) ns (variables (statements_of c.args.body.now)) go)))

pub returns-clause-did : goal.returns-clause-did
returns-clause-did g c = let fs = functions_of c.args.body.now in let ps = c.args.parameters.now in takes_as _ (λ nu u. u) c.add_variables.result (leads_then (leads_eq (λ nu go. ap (λ fs. add_functions (nu c.args.frame) ps fs (λ ns. add_variables (nu c.args.frame) ns (variables (statements_of c.args.body.now)) go)) (sym c.functions-functions.ensures))) (leads_then (gives_on c.in_ok-add_functions.ensures.did (λ nu ns go. add_variables (nu c.args.frame) ns (variables (statements_of c.args.body.now)) go)) (leads_eq (λ nu go. ap (λ vs. add_variables (nu c.args.frame) (after ps c.functions-functions.result.now) vs go) (sym c.requires.hoisted))))) c.add_variables.ensures.did
