use Rattle.js_tree.specs.Expressions.{member_row}
use Rattle.js_tree.specs.Pieces.{get_property}
use Rattle.run_host.proofs.Exits.{value_exit}
use Rattle.run_host.proofs.Fits.{runs_left, runs_on, valued}
use Rattle.turk_base.specs.Prog.{value}
use Rattle.tree_rows.proofs.below.Below.property.Goals as goal

pub returns-in_err-base-clause-ran : goal.returns-in_err-base-clause-ran
unfolding member_row
returns-in_err-base-clause-ran g c = value_exit _ _ c.from_residual.ensures.1 (runs_left (λ nu p. get_property p.0 p.1 (λ v. value v)) c.in_err-base.ensures.did)

pub returns-clause-ran : goal.returns-clause-ran
unfolding member_row
returns-clause-ran g c = runs_on (λ nu p. get_property p.0 p.1 (λ v. value v)) c.in_ok-base.ensures.did (valued _ c.get_property.result c.get_property.ensures.did)
