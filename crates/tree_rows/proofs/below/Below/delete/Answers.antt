use Rattle.js_tree.specs.Expressions.{delete_row}
use Rattle.js_tree.specs.Operate.{delete_property}
use Rattle.run_host.proofs.Exits.{value_exit}
use Rattle.run_host.proofs.Fits.{runs_left, runs_on}
use Rattle.tree_rows.proofs.below.Below.delete.Goals as goal

pub returns-in_err-base-clause-ran : goal.returns-in_err-base-clause-ran
unfolding delete_row
returns-in_err-base-clause-ran g c = value_exit _ _ c.from_residual.ensures.1 (runs_left (λ nu p. delete_property p.0 p.1) c.in_err-base.ensures.did)

pub returns-clause-ran : goal.returns-clause-ran
unfolding delete_row
returns-clause-ran g c = runs_on (λ nu p. delete_property p.0 p.1) c.in_ok-base.ensures.did c.delete_property.ensures.did
