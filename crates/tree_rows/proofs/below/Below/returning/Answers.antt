use Rattle.turk_base.specs.Values.{Return}
use Rattle.turk_base.specs.Prog.{Done}
use Rattle.js_tree.specs.Statements.{return_row}
use Rattle.run_host.proofs.Sequence.{then_on, ends_with}
use Rattle.run_host.proofs.Exits.{flow_exit, first_out}
use Rattle.tree_rows.proofs.below.Below.returning.Goals as goal

pub returns-in_default-clause-ran : goal.returns-in_default-clause-ran
unfolding return_row
returns-in_default-clause-ran g c = rw c.in_default.is ends_with

pub returns-in_err-value-clause-ran : goal.returns-in_err-value-clause-ran
unfolding return_row
returns-in_err-value-clause-ran g c = rw c.in-Some.is (flow_exit _ _ c.from_residual.ensures.1 (first_out (λ nu v. Done (Return v)) _ c.in_err-value.ensures.ran))

pub returns-clause-ran : goal.returns-clause-ran
unfolding return_row
returns-clause-ran g c = rw c.in-Some.is (then_on (λ nu v. Done (Return v)) c.in_ok-value.ensures.ran ends_with)
