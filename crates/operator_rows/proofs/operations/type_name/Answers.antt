use Rattle.js_tree.specs.Expressions.{typeof_row}
use Rattle.js_tree.specs.Operate.{typeof_place}
use Rattle.run_host.specs.Told.{here_in}
use Rattle.run_host.proofs.Exits.{value_exit}
use Rattle.run_host.proofs.Fits.{runs_on, runs_left}
use Rattle.operator_rows.proofs.operations.type_name.Goals as goal

pub returns-in_err-place-clause-ran : goal.returns-in_err-place-clause-ran
unfolding typeof_row
returns-in_err-place-clause-ran g c = value_exit _ _ c.from_residual.ensures.1 (runs_left (λ nu p. typeof_place (here_in nu c.args.here) p) c.in_err-place.ensures.did)

pub returns-clause-ran : goal.returns-clause-ran
unfolding typeof_row
returns-clause-ran g c = runs_on (λ nu p. typeof_place (here_in nu c.args.here) p) c.in_ok-place.ensures.did c.typeof_place.ensures.ran
