use Rattle.turk_base.specs.Values.{Object}
use Rattle.turk_base.specs.Prog.{Declare, ask}
use Rattle.js_tree.specs.Trees.{number_of}
use Rattle.js_tree.specs.Pieces.{make_function}
use Rattle.run_host.proofs.Sequence.{leads_then, leads_out, gives_on, leaves_on}
use Rattle.run_host.proofs.Exits.{takes_exit}
use Rattle.host_steps.proofs.literals.own_function.Goals as goal

pub returns-in_err-frame-clause-did : goal.returns-in_err-frame-clause-did
returns-in_err-frame-clause-did g c = takes_exit _ _ c.from_residual.ensures.1 (leaves_on c.in_err-frame.ensures.did (λ nu g go. make_function (number_of c.args.body.now) g (λ f. ask (Declare g c.args.own.now (Object f)) (λ _. go (Object f)))))

pub returns-in_err-function-clause-did : goal.returns-in_err-function-clause-did
returns-in_err-function-clause-did g c = takes_exit _ _ c.from_residual-in_err-function.ensures.1 (leads_out (gives_on c.in_ok-frame.ensures.did (λ nu g go. make_function (number_of c.args.body.now) g (λ f. ask (Declare g c.args.own.now (Object f)) (λ _. go (Object f))))) (leaves_on c.in_err-function.ensures.did (λ nu f go. ask (Declare (nu c.in_ok-frame.frame) c.args.own.now (Object f)) (λ _. go (Object f)))))

pub returns-in_err-declare-clause-did : goal.returns-in_err-declare-clause-did
returns-in_err-declare-clause-did g c = takes_exit _ _ c.from_residual-in_err-declare.ensures.1 (leads_out (gives_on c.in_ok-frame.ensures.did (λ nu g go. make_function (number_of c.args.body.now) g (λ f. ask (Declare g c.args.own.now (Object f)) (λ _. go (Object f))))) (leads_out (gives_on c.in_ok-function.ensures.did (λ nu f go. ask (Declare (nu c.in_ok-frame.frame) c.args.own.now (Object f)) (λ _. go (Object f)))) (leaves_on c.in_err-declare.ensures.did (λ nu _ go. go (Object (nu c.in_ok-function.function))))))

pub returns-clause-did : goal.returns-clause-did
returns-clause-did g c = leads_then (gives_on c.in_ok-frame.ensures.did (λ nu g go. make_function (number_of c.args.body.now) g (λ f. ask (Declare g c.args.own.now (Object f)) (λ _. go (Object f))))) (leads_then (gives_on c.in_ok-function.ensures.did (λ nu f go. ask (Declare (nu c.in_ok-frame.frame) c.args.own.now (Object f)) (λ _. go (Object f)))) (gives_on c.in_ok-declare.ensures.did (λ nu _ go. go (Object (nu c.in_ok-function.function)))))
