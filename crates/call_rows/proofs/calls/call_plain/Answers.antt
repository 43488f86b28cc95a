use Rattle.js_tree.specs.Calls.{call_value}
use Rattle.js_tree.specs.Rows.{stmt_to}
use Rattle.run_host.proofs.Exits.{value_exit}
use Rattle.run_host.proofs.Fits.{runs_left, runs_on}
use Rattle.std.specs.Prelude.{map}
use Rattle.tree_rows.specs.Codes.{table_in}
use Rattle.turk_base.specs.Values.{Undefined}
use Rattle.value_cells.specs.Seen.{val_in}
use Rattle.call_rows.proofs.calls.call_plain.Goals as goal

pub returns-in_err-function-clause-ran : goal.returns-in_err-function-clause-ran
returns-in_err-function-clause-ran g c = let t = table_in c.args.codes.now in let s = stmt_to t c.args.below.now.left in value_exit _ _ c.from_residual.ensures.1 (runs_left (λ nu f. call_value t s f Undefined (map (val_in nu) c.args.arguments.now)) c.in_err-function.ensures.did)

pub returns-clause-ran : goal.returns-clause-ran
returns-clause-ran g c = let t = table_in c.args.codes.now in let s = stmt_to t c.args.below.now.left in runs_on (λ nu f. call_value t s f Undefined (map (val_in nu) c.args.arguments.now)) c.in_ok-function.ensures.did c.call_value.ensures.ran
