use Rattle.call_steps.proofs.Others.{no_call}
use Rattle.host_steps.proofs.Made.{runs_as}
use Rattle.js_tree.specs.Calls.{call_value}
use Rattle.js_tree.specs.Rows.{stmt_to}
use Rattle.run_host.specs.Told.{this_in}
use Rattle.std.proofs.Common.{ap}
use Rattle.std.specs.Prelude.{map}
use Rattle.tree_rows.specs.Codes.{table_in}
use Rattle.value_cells.specs.Seen.{val_in}
use Rattle.call_rows.proofs.calls.call_value.Goals as goal

pub returns-in-Object-clause-ran : goal.returns-in-Object-clause-ran
returns-in-Object-clause-ran g c = let t = table_in c.args.codes.now in let s = stmt_to t c.args.below.now.left in runs_as (λ nu. ap (λ v. call_value t s (val_in nu v) (this_in nu c.args.this) (map (val_in nu) c.args.arguments.now)) c.in-Object.is) c.call_cell.ensures.ran

pub returns-in_default-clause-ran : goal.returns-in_default-clause-ran
returns-in_default-clause-ran g c = let t = table_in c.args.codes.now in let s = stmt_to t c.args.below.now.left in runs_as (λ nu. no_call t s c.args.function.now c.in_default.not-Object nu (this_in nu c.args.this) (map (val_in nu) c.args.arguments.now)) c.no_function.ensures.did
