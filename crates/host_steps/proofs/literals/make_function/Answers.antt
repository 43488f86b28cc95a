use Rattle.std.specs.Prelude.{None, codes}
use Rattle.turk_base.specs.Values.{Object, Plain}
use Rattle.turk_base.specs.Prog.{Make, Put, ask}
use Rattle.run_host.proofs.Sequence.{leads_then, leads_out, gives_on, leaves_on}
use Rattle.run_host.proofs.Exits.{takes_exit}
use Rattle.run_host.proofs.Fits.{leaves_lost}
use Rattle.host_steps.proofs.Made.{put_under, put_out_under}
use Rattle.host_steps.proofs.literals.make_function.Goals as goal

pub returns-in_err-key-clause-did : goal.returns-in_err-key-clause-did
returns-in_err-key-clause-did g c = takes_exit _ _ c.from_residual.ensures.1 leaves_lost

pub returns-in_err-function-clause-did : goal.returns-in_err-function-clause-did
returns-in_err-function-clause-did g c = takes_exit _ _ c.from_residual-in_err-function.ensures.1 (leaves_on c.in_err-function.ensures.did (λ nu f go. ask (Make (Plain None)) (λ o. ask (Put f (codes "prototype") (Object o)) (λ _. go f))))

pub returns-in_err-prototype-clause-did : goal.returns-in_err-prototype-clause-did
returns-in_err-prototype-clause-did g c = takes_exit _ _ c.from_residual-in_err-prototype.ensures.1 (leads_out (gives_on c.in_ok-function.ensures.did (λ nu f go. ask (Make (Plain None)) (λ o. ask (Put f (codes "prototype") (Object o)) (λ _. go f)))) (leaves_on c.in_err-prototype.ensures.did (λ nu o go. ask (Put (nu c.in_ok-function.function) (codes "prototype") (Object o)) (λ _. go (nu c.in_ok-function.function)))))

pub returns-in_err-put-clause-did : goal.returns-in_err-put-clause-did
returns-in_err-put-clause-did g c = takes_exit _ _ c.from_residual-in_err-put.ensures.1 (leads_out (gives_on c.in_ok-function.ensures.did (λ nu f go. ask (Make (Plain None)) (λ o. ask (Put f (codes "prototype") (Object o)) (λ _. go f)))) (leads_out (gives_on c.in_ok-prototype.ensures.did (λ nu o go. ask (Put (nu c.in_ok-function.function) (codes "prototype") (Object o)) (λ _. go (nu c.in_ok-function.function)))) (leaves_on (put_out_under {at = λ nu. nu c.in_ok-function.function} {v = λ nu. Object (nu c.in_ok-prototype.prototype)} (codes "prototype") c.in_ok-key.ensures c.in_err-put.ensures.did) (λ nu _ go. go (nu c.in_ok-function.function)))))

pub returns-clause-did : goal.returns-clause-did
returns-clause-did g c = leads_then (gives_on c.in_ok-function.ensures.did (λ nu f go. ask (Make (Plain None)) (λ o. ask (Put f (codes "prototype") (Object o)) (λ _. go f)))) (leads_then (gives_on c.in_ok-prototype.ensures.did (λ nu o go. ask (Put (nu c.in_ok-function.function) (codes "prototype") (Object o)) (λ _. go (nu c.in_ok-function.function)))) (gives_on (put_under {at = λ nu. nu c.in_ok-function.function} {v = λ nu. Object (nu c.in_ok-prototype.prototype)} (codes "prototype") c.in_ok-key.ensures c.in_ok-put.ensures.did) (λ nu _ go. go (nu c.in_ok-function.function))))
