use Rattle.host_steps.proofs.Made.{runs_as}
use Rattle.js_tree.specs.Calls.{construct}
use Rattle.js_tree.specs.Expressions.{each, new_row}
use Rattle.js_tree.specs.Pieces.{get_place}
use Rattle.js_tree.specs.Rows.{expr_to, stmt_to}
use Rattle.run_host.proofs.Exits.{value_exit}
use Rattle.run_host.proofs.Fits.{runs_left, runs_on}
use Rattle.run_host.specs.Told.{here_in}
use Rattle.std.proofs.Common.{ap, sym}
use Rattle.std.specs.Prelude.{map}
use Rattle.tree_rows.specs.Codes.{table_in}
use Rattle.value_cells.specs.Seen.{val_in}
use Rattle.call_rows.proofs.news.new_object.Goals as goal

pub returns-in_err-place-clause-ran : goal.returns-in_err-place-clause-ran
unfolding new_row
returns-in_err-place-clause-ran g c = let t = table_in c.args.codes.now in let e = expr_to t c.args.below.now.left in let s = stmt_to t c.args.below.now.left in value_exit _ _ c.from_residual.ensures.1 (runs_left (λ nu p. get_place (here_in nu c.args.here) p (λ f. each e (here_in nu c.args.here) c.args.es.now (λ args. construct t s f args))) c.in_err-place.ensures.did)

pub returns-in_err-function-clause-ran : goal.returns-in_err-function-clause-ran
unfolding new_row
returns-in_err-function-clause-ran g c = let t = table_in c.args.codes.now in let e = expr_to t c.args.below.now.left in let s = stmt_to t c.args.below.now.left in value_exit _ _ c.from_residual-in_err-function.ensures.1 (runs_on (λ nu p. get_place (here_in nu c.args.here) p (λ f. each e (here_in nu c.args.here) c.args.es.now (λ args. construct t s f args))) c.in_ok-place.ensures.did (runs_left (λ nu f. each e (here_in nu c.args.here) c.args.es.now (λ args. construct t s f args)) c.in_err-function.ensures.did))

pub returns-in_err-arguments-clause-ran : goal.returns-in_err-arguments-clause-ran
unfolding new_row
returns-in_err-arguments-clause-ran g c = let t = table_in c.args.codes.now in let e = expr_to t c.args.below.now.left in let s = stmt_to t c.args.below.now.left in value_exit _ _ c.from_residual-in_err-arguments.ensures.1 (runs_on (λ nu p. get_place (here_in nu c.args.here) p (λ f. each e (here_in nu c.args.here) c.args.es.now (λ args. construct t s f args))) c.in_ok-place.ensures.did (runs_on (λ nu f. each e (here_in nu c.args.here) c.args.es.now (λ args. construct t s f args)) c.in_ok-function.ensures.did (runs_left (λ nu args. construct t s (val_in nu c.in_ok-function.function) args) c.in_err-arguments.ensures.did)))

pub returns-clause-ran : goal.returns-clause-ran
unfolding new_row
returns-clause-ran g c = let t = table_in c.args.codes.now in let e = expr_to t c.args.below.now.left in let s = stmt_to t c.args.below.now.left in runs_on (λ nu p. get_place (here_in nu c.args.here) p (λ f. each e (here_in nu c.args.here) c.args.es.now (λ args. construct t s f args))) c.in_ok-place.ensures.did (runs_on (λ nu f. each e (here_in nu c.args.here) c.args.es.now (λ args. construct t s f args)) c.in_ok-function.ensures.did (runs_on (λ nu args. construct t s (val_in nu c.in_ok-function.function) args) c.in_ok-arguments.ensures.did
    (runs_as (λ nu. ap (λ vs. construct t s (val_in nu c.in_ok-function.function) (map (val_in nu) vs)) (sym c.as_slice.ensures.value)) c.construct.ensures.ran)))
