use Rattle.turk_base.specs.Prog.{nothing}
use Rattle.js_tree.specs.Expressions.{void_row}
use Rattle.run_host.proofs.Sequence.{then_on, ends_with}
use Rattle.run_host.proofs.Exits.{value_exit, first_out}
use Rattle.tree_rows.proofs.below.Below.void.Goals as goal

pub returns-in_err-_value-clause-ran : goal.returns-in_err-_value-clause-ran
unfolding void_row
returns-in_err-_value-clause-ran g c = value_exit _ _ c.from_residual.ensures.1 (first_out (λ nu _. nothing) _ c.in_err-_value.ensures.ran)

pub returns-clause-ran : goal.returns-clause-ran
unfolding void_row
returns-clause-ran g c = then_on (λ nu _. nothing) c.in_ok-_value.ensures.ran ends_with
