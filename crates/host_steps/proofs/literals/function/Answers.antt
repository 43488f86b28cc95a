use Rattle.turk_base.specs.Values.{Object}
use Rattle.turk_base.specs.Prog.{value}
use Rattle.js_tree.specs.Expressions.{function_row}
use Rattle.run_host.proofs.Sequence.{ends_with}
use Rattle.run_host.proofs.Exits.{value_exit}
use Rattle.run_host.proofs.Fits.{valued, runs_on, runs_left}
use Rattle.host_steps.proofs.literals.function.Goals as goal

pub returns-in-Some-clause-ran : goal.returns-in-Some-clause-ran
unfolding function_row
returns-in-Some-clause-ran g c = rw c.in-Some.is (valued _ c.own_function.result c.own_function.ensures.did)

pub returns-in_err-function-in-None-clause-ran : goal.returns-in_err-function-in-None-clause-ran
unfolding function_row
returns-in_err-function-in-None-clause-ran g c = rw c.in-None.is (value_exit _ _ c.from_residual.ensures.1 (runs_left (λ nu f. value (Object f)) c.in_err-function-in-None.ensures.did))

pub returns-in_ok-function-in-None-clause-ran : goal.returns-in_ok-function-in-None-clause-ran
unfolding function_row
returns-in_ok-function-in-None-clause-ran g c = rw c.in-None.is (runs_on (λ nu f. value (Object f)) c.in_ok-function-in-None.ensures.did ends_with)
