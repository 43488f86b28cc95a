use Rattle.js_tree.specs.Pieces.{has_properties}
use Rattle.js_tree.specs.Rows.{expr_to, stmt_to}
use Rattle.js_tree.specs.Statements.{for_in_row, keys_of}
use Rattle.js_tree.specs.declared.ForTarget.{out-ForTarget}
use Rattle.run_host.proofs.Exits.{first_out, flow_exit}
use Rattle.run_host.proofs.Fits.{runs_left, runs_on}
use Rattle.run_host.proofs.Sequence.{then_on}
use Rattle.run_host.specs.Told.{here_in}
use Rattle.tree_rows.specs.Codes.{table_in}
use Rattle.value_cells.specs.Seen.{val_in}
use Rattle.tree_rows.proofs.below.Below.for_in.Goals as goal

pub returns-in_err-value-clause-ran : goal.returns-in_err-value-clause-ran
unfolding for_in_row
returns-in_err-value-clause-ran g c = let t = table_in c.args.codes.now in
    flow_exit _ _ c.from_residual.ensures.1 (first_out (λ nu v. has_properties v (λ _. keys_of t (expr_to t c.args.self.now.left) (stmt_to t c.args.self.now.left) (here_in nu c.args.here) (out-ForTarget c.args.into.now) c.args.s.now v)) _ c.in_err-value.ensures.ran)

pub returns-in_err-has_properties-clause-ran : goal.returns-in_err-has_properties-clause-ran
unfolding for_in_row
returns-in_err-has_properties-clause-ran g c = let t = table_in c.args.codes.now in
    flow_exit _ _ c.from_residual-in_err-has_properties.ensures.1 (then_on (λ nu v. has_properties v (λ _. keys_of t (expr_to t c.args.self.now.left) (stmt_to t c.args.self.now.left) (here_in nu c.args.here) (out-ForTarget c.args.into.now) c.args.s.now v)) c.in_ok-value.ensures.ran (runs_left (λ nu _. keys_of t (expr_to t c.args.self.now.left) (stmt_to t c.args.self.now.left) (here_in nu c.args.here) (out-ForTarget c.args.into.now) c.args.s.now (val_in nu c.in_ok-value.value)) c.in_err-has_properties.ensures.did))

pub returns-clause-ran : goal.returns-clause-ran
unfolding for_in_row
returns-clause-ran g c = let t = table_in c.args.codes.now in
    then_on (λ nu v. has_properties v (λ _. keys_of t (expr_to t c.args.self.now.left) (stmt_to t c.args.self.now.left) (here_in nu c.args.here) (out-ForTarget c.args.into.now) c.args.s.now v)) c.in_ok-value.ensures.ran (runs_on (λ nu _. keys_of t (expr_to t c.args.self.now.left) (stmt_to t c.args.self.now.left) (here_in nu c.args.here) (out-ForTarget c.args.into.now) c.args.s.now (val_in nu c.in_ok-value.value)) c.in_ok-has_properties.ensures.did c.keys_of.ensures.ran)
