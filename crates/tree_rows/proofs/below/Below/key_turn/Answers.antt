use Rattle.host_steps.proofs.Made.{runs_as}
use Rattle.js_tree.specs.Rows.{expr_to, stmt_to}
use Rattle.js_tree.specs.Statements.{key_turn}
use Rattle.js_tree.specs.declared.ForTarget.{out-ForTarget}
use Rattle.run_host.proofs.Exits.{flow_exit}
use Rattle.run_host.proofs.Fits.{runs_left, runs_on}
use Rattle.run_host.proofs.Sequence.{ends_with}
use Rattle.run_host.specs.Told.{here_in}
use Rattle.std.proofs.Common.{sym, ◌∙◌}
use Rattle.tree_rows.proofs.Keys.{turn_gone, turn_there}
use Rattle.tree_rows.specs.Codes.{table_in}
use Rattle.tree_rows.proofs.below.Below.key_turn.Goals as goal

pub returns-in_err-get-clause-ran : goal.returns-in_err-get-clause-ran
returns-in_err-get-clause-ran g c = let t = table_in c.args.codes.now in
    flow_exit _ _ c.from_residual.ensures.1 (runs_left (λ nu found. key_turn t (expr_to t c.args.self.now.left) (stmt_to t c.args.self.now.left) (here_in nu c.args.here) (out-ForTarget c.args.into.now) c.args.s.now c.args.key.now found) c.in_err-get.ensures.did)

pub returns-then-is_there-clause-ran : goal.returns-then-is_there-clause-ran
returns-then-is_there-clause-ran g c = let t = table_in c.args.codes.now in
    runs_on (λ nu found. key_turn t (expr_to t c.args.self.now.left) (stmt_to t c.args.self.now.left) (here_in nu c.args.here) (out-ForTarget c.args.into.now) c.args.s.now c.args.key.now found) c.in_ok-get.ensures.did (runs_as (turn_there t (expr_to t c.args.self.now.left) (stmt_to t c.args.self.now.left) (λ nu. here_in nu c.args.here) (out-ForTarget c.args.into.now) c.args.s.now c.args.key.now _ (sym c.is_there.ensures ∙ c.if-is_there.true)) c.found_turn.ensures.ran)

pub returns-else-is_there-clause-ran : goal.returns-else-is_there-clause-ran
returns-else-is_there-clause-ran g c = let t = table_in c.args.codes.now in
    runs_on (λ nu found. key_turn t (expr_to t c.args.self.now.left) (stmt_to t c.args.self.now.left) (here_in nu c.args.here) (out-ForTarget c.args.into.now) c.args.s.now c.args.key.now found) c.in_ok-get.ensures.did (runs_as (turn_gone t (expr_to t c.args.self.now.left) (stmt_to t c.args.self.now.left) (λ nu. here_in nu c.args.here) (out-ForTarget c.args.into.now) c.args.s.now c.args.key.now _ (sym c.is_there.ensures ∙ c.if-is_there.false)) ends_with)
