use Rattle.turk_base.specs.Values.{Throw}
use Rattle.turk_base.specs.Prog.{Done}
use Rattle.js_tree.specs.Statements.{throw_row}
use Rattle.run_host.proofs.Sequence.{then_on, ends_with}
use Rattle.run_host.proofs.Exits.{flow_exit, first_out}
use Rattle.tree_rows.proofs.below.Below.throwing.Goals as goal

pub returns-in_err-value-clause-ran : goal.returns-in_err-value-clause-ran
unfolding throw_row
returns-in_err-value-clause-ran g c = flow_exit _ _ c.from_residual.ensures.1 (first_out (λ nu v. Done (Throw v)) _ c.in_err-value.ensures.ran)

pub returns-clause-ran : goal.returns-clause-ran
unfolding throw_row
returns-clause-ran g c = then_on (λ nu v. Done (Throw v)) c.in_ok-value.ensures.ran ends_with
