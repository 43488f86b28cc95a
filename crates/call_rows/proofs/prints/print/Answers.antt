use Rattle.host_steps.proofs.Made.{runs_as}
use Rattle.js_tree.specs.Rows.{expr_to, stmt_to}
use Rattle.js_tree.specs.ScriptCalls.{line_of, print_row}
use Rattle.run_host.proofs.Exits.{value_exit}
use Rattle.run_host.proofs.Fits.{runs_left, runs_on}
use Rattle.run_host.proofs.Sequence.{ends_with}
use Rattle.std.proofs.Common.{ap, sym}
use Rattle.std.specs.Prelude.{map}
use Rattle.tree_rows.specs.Codes.{table_in}
use Rattle.turk_base.specs.Prog.{Print, ask, value}
use Rattle.turk_base.specs.Values.{Undefined}
use Rattle.value_cells.specs.Seen.{val_in}
use Rattle.call_rows.proofs.prints.print.Goals as goal

pub returns-in_err-values-clause-ran : goal.returns-in_err-values-clause-ran
unfolding print_row
returns-in_err-values-clause-ran g c = let t = table_in c.args.codes.now in let e = expr_to t c.args.below.now.left in let s = stmt_to t c.args.below.now.left in value_exit _ _ c.from_residual.ensures.1 (runs_left (λ nu vs. line_of vs (λ line. ask (Print line) (λ _. value Undefined))) c.in_err-values.ensures.did)

pub returns-in_err-line-clause-ran : goal.returns-in_err-line-clause-ran
unfolding print_row
returns-in_err-line-clause-ran g c = let t = table_in c.args.codes.now in let e = expr_to t c.args.below.now.left in let s = stmt_to t c.args.below.now.left in value_exit _ _ c.from_residual-in_err-line.ensures.1 (runs_on (λ nu vs. line_of vs (λ line. ask (Print line) (λ _. value Undefined))) c.in_ok-values.ensures.did
    (runs_as (λ nu. ap (λ vs. line_of (map (val_in nu) vs) (λ line. ask (Print line) (λ _. value Undefined))) (sym c.as_slice.ensures.value)) (runs_left (λ nu line. ask (Print line) (λ _. value Undefined)) c.in_err-line.ensures.did)))

pub returns-in_err-print-clause-ran : goal.returns-in_err-print-clause-ran
unfolding print_row
returns-in_err-print-clause-ran g c = let t = table_in c.args.codes.now in let e = expr_to t c.args.below.now.left in let s = stmt_to t c.args.below.now.left in value_exit _ _ c.from_residual-in_err-print.ensures.1 (runs_on (λ nu vs. line_of vs (λ line. ask (Print line) (λ _. value Undefined))) c.in_ok-values.ensures.did
    (runs_as (λ nu. ap (λ vs. line_of (map (val_in nu) vs) (λ line. ask (Print line) (λ _. value Undefined))) (sym c.as_slice.ensures.value)) (runs_on (λ nu line. ask (Print line) (λ _. value Undefined)) c.in_ok-line.ensures.did (runs_left (λ nu _. value Undefined) c.in_err-print.ensures.did))))

pub returns-clause-ran : goal.returns-clause-ran
unfolding print_row
returns-clause-ran g c = let t = table_in c.args.codes.now in let e = expr_to t c.args.below.now.left in let s = stmt_to t c.args.below.now.left in runs_on (λ nu vs. line_of vs (λ line. ask (Print line) (λ _. value Undefined))) c.in_ok-values.ensures.did
    (runs_as (λ nu. ap (λ vs. line_of (map (val_in nu) vs) (λ line. ask (Print line) (λ _. value Undefined))) (sym c.as_slice.ensures.value)) (runs_on (λ nu line. ask (Print line) (λ _. value Undefined)) c.in_ok-line.ensures.did (runs_on (λ nu _. value Undefined) c.in_ok-print.ensures.did ends_with)))
